-- How runs of the administrator's lines add up.
use Rattle.std.proofs.Common.{◌≡◌, ℕ, zero, suc, ◌+◌, ◌<◌, ◌≤◌, ◌^◌, ◌==◌, Bool, true, false, cond, List, [], ◌∷◌, ◌++◌, length, map, take, drop, get_or, Option, None, Result, Ok, Err, refl, sym, ap, subst, ◌∙◌, append_assoc, append-nil, length-append, arith, ne_eqb, eq-eqb, true≢false}
use Rattle.std.specs.List.{AllZip}
use Rattle.std.proofs.lemmas.List.{map-append}
use Rattle.blk_device.specs.Contents.{Contents}
use Rattle.ipe_machine.specs.declared.command.Command.{Command}
use Rattle.ipe_machine.specs.declared.command.Act.{Act}
use Rattle.ipe_machine.specs.declared.command.Act.TheVariants.{Load, Update, Activate, Delete, Enforce, SuccessAudit}
use Rattle.ipe_machine.specs.declared.answer.Done.{Done}
use Rattle.ipe_machine.specs.declared.answer.Done.TheVariants as done
use Rattle.ipe_machine.specs.declared.answer.Refusal.{Refusal}
use Rattle.ipe_machine.specs.Answer.{Verdicts, after_answer, answer}
use Rattle.ipe_machine.specs.Change.{changed}
use Rattle.ipe_machine.specs.Policies.{Policies, is_active}
use Rattle.ipe_gate_rule.specs.declared.event.Event.{Event}
use Rattle.ipe_gate_rule.specs.Owners.{is_switch}
use Rattle.ipe_gate_rule.proofs.Frees.{later_same, later_chain}
use Rattle.ipe_gate.specs.Seats.{admin_seen}
use Rattle.ipe_admin.specs.declared.admin.Admin.{Admin}
use Rattle.ipe_admin.specs.declared.outcome.Outcome.{Outcome}
use Rattle.ipe_admin.specs.Outcomes.{IsOutcome, SameGate, gate_in, policies_in, written}
use Rattle.ipe_nodes.specs.Nodes.{node_read}
use Rattle.ipe_policy.specs.declared.request.Request.{Request}
use Rattle.ipe_policy.specs.declared.request.Subject.{Subject}
use Rattle.ipe_requests.specs.Rules.{IsHookOf}
use Rattle.ipe_requests.specs.declared.script.PhaseLine.{PhaseLine}
use Rattle.ipe_requests.specs.declared.script.PhaseLine.TheVariants as asked
use Rattle.ipe_requests.specs.declared.script.WriteContent.{WriteContent}
use Rattle.ipe_objects.specs.Ready.{Ready}
use Rattle.ipe_transcript.specs.declared.transcript.Entry.{Entry}
use Rattle.ipe_weave.specs.Acts.{Act as GateAct, acts_of}
use Rattle.ipe_weave.specs.Gate.{gate_basis}
use Rattle.ipe_weave.specs.Lines.{Acted, Line, Read, Task, actor_of, after_write, line_in, task_in, told}
use Rattle.ipe_weave.specs.Seats.{AdminRan}
use Rattle.ipe_weave.specs.Standing.{BeginsWith, CommandsRan, policies_after, policies_then, raised}
use Rattle.ipe_weave.specs.Told.{entry_of, told_entry}
use Rattle.ipe_lines.specs.Asked.{asked_by, verdicts_of}
use Rattle.ipe_lines.specs.Told.{content_of_line, told_phase}
use Rattle.ipe_workers.specs.Prepared.{files_in}
use Rattle.ipe_workers.specs.Workers.{lines_for}
use Rattle.ipe_workers.specs.Administering.{HasAdministered, IsWritten}
use Rattle.ipe_workers.proofs.Adding.{cut_at, line_at, lines_both, other_one, own_one, take_next}

-- what the laws say of one line more, from no line
abbrev pub WritesAreLines : Type 0
WritesAreLines =
    (verdicts : Verdicts) (policies : Policies) (first : List Event) (entries : List Acted) (number : ℕ) (may : Bool) (asked : Result Command Refusal) (a b : Admin) (outcome : Outcome)
    → AdminRan (gate_basis verdicts) policies first (admin_seen (gate_in a)) entries
    → policies_in a ≡ policies_then verdicts policies (map task_in entries)
    → IsOutcome verdicts asked a b outcome
    → AdminRan (gate_basis verdicts) policies first (admin_seen (gate_in b)) (entries ++ written number may asked (policies_in a) outcome ∷ [])

-- nothing ran at first
abbrev pub admin_none : (verdicts : Verdicts) (a : Admin) → AdminRan (gate_basis verdicts) (policies_in a) (admin_seen (gate_in a)) (admin_seen (gate_in a)) []
admin_none verdicts a = record { since = record { acts = []; came = sym (append-nil (acts_of is_switch (admin_seen (gate_in a)))) }; ran = tt; switches = tt }

-- lines, and then more
commands_both : (v : Verdicts) (p : Policies) (xs ys : List Acted) → CommandsRan v p xs → CommandsRan v (policies_then v p (map task_in xs)) ys → CommandsRan v p (xs ++ ys)
commands_both v p [] ys ran more = more
commands_both v p (x ∷ xs) ys ran more = (ran.0, commands_both v (policies_after v p x.line.task) xs ys ran.1 more)

then_both : (v : Verdicts) (p : Policies) (xs ys : List Task) → policies_then v p (xs ++ ys) ≡ policies_then v (policies_then v p xs) ys
then_both v p [] ys = refl
then_both v p (x ∷ xs) ys = then_both v (policies_after v p x) xs ys

raised_both : (v : Verdicts) (p : Policies) (xs ys : List Task) → raised v p (xs ++ ys) ≡ raised v p xs ++ raised v (policies_then v p xs) ys
raised_both v p [] ys = refl
raised_both v p (x ∷ xs) ys = by ((policies_after v p x).epoch == p.epoch) (raised_both v (policies_after v p x) xs ys)
  where
    next : Policies
    next = policies_after v p x

    by : (b : Bool) → raised v next (xs ++ ys) ≡ raised v next xs ++ raised v (policies_then v next xs) ys
        → cond b (raised v next (xs ++ ys)) (next ∷ raised v next (xs ++ ys)) ≡ cond b (raised v next xs) (next ∷ raised v next xs) ++ raised v (policies_then v next xs) ys
    by true e = e
    by false e = ap (λ (ps : List Policies). next ∷ ps) e

zip_both : {A B : Type 0} (R : A → B → Type 0) (xs more : List A) (ys others : List B) → AllZip R xs ys → AllZip R more others → AllZip R (xs ++ more) (ys ++ others)
zip_both R [] more [] others zip rest = rest
zip_both R [] more (y ∷ ys) others zip rest = absurd zip
zip_both R (x ∷ xs) more [] others zip rest = absurd zip
zip_both R (x ∷ xs) more (y ∷ ys) others zip rest = (zip.0, zip_both R xs more ys others zip.1 rest)

admin_both : (v : Verdicts) (p q : Policies) (first mid last : List Event) (xs ys : List Acted) → q ≡ policies_then v p (map task_in xs)
    → AdminRan (gate_basis v) p first mid xs → AdminRan (gate_basis v) q mid last ys → AdminRan (gate_basis v) p first last (xs ++ ys)
admin_both v p q first mid last xs ys is a b = record {
  since = record {
    acts = a.since.acts ++ b.since.acts;
    came =
        b.since.came ∙ ap (λ (acts : List GateAct). acts ++ b.since.acts) a.since.came
        ∙ append_assoc (acts_of is_switch first) a.since.acts b.since.acts;
  };
  ran = commands_both v p xs ys a.ran (subst (λ (r : Policies). CommandsRan v r ys) is b.ran);
  switches =
      subst (AllZip (BeginsWith (gate_basis v)) (a.since.acts ++ b.since.acts))
      (sym (ap (raised v p) (map-append task_in xs ys) ∙ raised_both v p (map task_in xs) (map task_in ys)))
      (zip_both (BeginsWith (gate_basis v)) a.since.acts b.since.acts _ _ a.switches
      (subst (λ (r : Policies). AllZip (BeginsWith (gate_basis v)) b.since.acts (raised v r (map task_in ys))) is b.switches));
}

-- a command takes at most one serial
cond-next : (b : Bool) (p q : Policies) (n : ℕ) → p.next ≤ n → q.next ≤ n → (cond b p q).next ≤ n
cond-next true p q n hp hq = hp
cond-next false p q n hp hq = hq

changed-next : (p : Policies) (act : Act) → (changed p act).next ≤ p.next + 1
changed-next p (Load text) = omega arith
changed-next p (Update name text) = cond-next (is_active name p) _ _ (p.next + 1) (omega arith) (omega arith)
changed-next p (Activate name wanted) = omega arith
changed-next p (Delete name wanted) = omega arith
changed-next p (Enforce wanted) = omega arith
changed-next p (SuccessAudit wanted) = omega arith

after_answer-next : (p : Policies) (act : Act) (r : Result Done Refusal) → (after_answer p act r).next ≤ p.next + 1
after_answer-next p act (Err refusal) = omega arith
after_answer-next p act (Ok done.AlreadyActive) = omega arith
after_answer-next p act (Ok done.Same) = omega arith
after_answer-next p act (Ok done.Loaded) = changed-next p act
after_answer-next p act (Ok done.Updated) = changed-next p act
after_answer-next p act (Ok done.Activated) = changed-next p act
after_answer-next p act (Ok done.Deleted) = changed-next p act
after_answer-next p act (Ok done.Changed) = changed-next p act

write-next : (v : Verdicts) (p : Policies) (asked : Result Command Refusal) → (after_write v p asked).next ≤ p.next + 1
write-next v p (Ok command) = after_answer-next p command.act (answer v p command)
write-next v p (Err refusal) = omega arith

pub same_self : (a : Admin) → SameGate a a
same_self a = record { gate = refl; passes = refl }

pub same_both : (a m b : Admin) → SameGate a m → SameGate m b → SameGate a b
same_both a m b x y = record { gate = y.gate ∙ x.gate; passes = y.passes ∙ x.passes }

-- nothing was done: the first of the lines aren't the administrator's, and where it is done there are no others
nothing_done : (objects : Ready) (images : Contents) (phase : ℕ) (done : Bool) (some rest : List PhaseLine) (a : Admin) (old : List Entry)
    → lines_for objects images 0 some ≡ [] → (done ≡ true → rest ≡ []) → HasAdministered objects images phase done (some ++ rest) a a old old
nothing_done objects images phase done some rest a old none all = record {
  some = some;
  rest = rest;
  cut = refl;
  acted = [];
  same = same_self a;
  later = later_same (admin_seen (gate_in a));
  ran = admin_none (verdicts_of objects.script) a;
  policies = refl;
  serials = omega arith;
  lines_are = sym none;
  whole = λ e. (all e, sym (append-nil old));
}

-- no line
pub administered_none : (objects : Ready) (images : Contents) (phase : ℕ) (a : Admin) (old : List Entry) → HasAdministered objects images phase true [] a a old old
administered_none objects images phase a old = nothing_done objects images phase true [] [] a old refl (λ e. refl)

-- a line that isn't the administrator's
administered_other : (objects : Ready) (images : Contents) (phase : ℕ) (done : Bool) (line : PhaseLine) (a : Admin) (old : List Entry)
    → (actor_of (line_at objects images line) == 0) ≡ false → HasAdministered objects images phase done (line ∷ []) a a old old
administered_other objects images phase done line a old other = nothing_done objects images phase done (line ∷ []) [] a old (other_one objects images 0 line other) (λ e. refl)

-- a hook
pub administered_hook : (objects : Ready) (images : Contents) (phase : ℕ) (line : PhaseLine) (number worker : ℕ) (request : Request) (subject : Subject) (path : Option (List ℕ)) (a : Admin) (old : List Entry)
    → line ≡ asked.Hook number worker request subject path → IsHookOf objects.script line → HasAdministered objects images phase true (line ∷ []) a a old old
administered_hook objects images phase line number worker request subject path a old is declared =
    let some : 0 < worker = (subst (IsHookOf objects.script) is declared).0 in
    administered_other objects images phase true line a old (ap (λ (l : PhaseLine). actor_of (line_at objects images l) == 0) is ∙ ne_eqb worker 0 (λ e. omega (arith, some, e)))

-- a line that was not begun
pub administered_not : (objects : Ready) (images : Contents) (phase : ℕ) (done : Bool) → done ≡ false → (lines : List PhaseLine) (a b : Admin) (old : List Entry) → b ≡ a
    → HasAdministered objects images phase done lines a b old old
administered_not objects images phase done off lines a b old is =
    subst (λ (c : Admin). HasAdministered objects images phase done lines a c old old) (sym is)
    (nothing_done objects images phase done [] lines a old refl (λ e. absurd (true≢false (sym e ∙ off))))

-- a write
pub administered_write : WritesAreLines → (objects : Ready) (images : Contents) (phase : ℕ) (done : Bool) (line : PhaseLine) (number : ℕ) (may : Bool) (node : List ℕ) (content : WriteContent) (a b : Admin) (old new : List Entry) (entry : Entry)
    → line ≡ asked.Write number may node content
    → IsWritten (verdicts_of objects.script) phase number may (asked_by objects.script may node content) a b entry
    → (done ≡ true → new ≡ old ++ entry ∷ []) → HasAdministered objects images phase done (line ∷ []) a b old new
administered_write laws objects images phase done line number may node content a b old new entry is wrote made =
    let v : Verdicts = verdicts_of objects.script in
    let asks : Result Command Refusal = asked_by objects.script may node content in
    let outcome : Outcome = wrote.0 in
    let one : Acted = written number may asks (policies_in a) outcome in
    let here : line_in one ≡ line_at objects images line = sym (ap (line_at objects images) is) in
    let next = write-next v (policies_in a) asks in
    let policies = wrote.1.policies in
    let serial : (policies_in b).next ≤ (policies_in a).next + 1 = subst (λ (p : Policies). p.next ≤ (policies_in a).next + 1) (sym policies) next in
    record {
      some = line ∷ [];
      rest = [];
      cut = refl;
      acted = one ∷ [];
      same = wrote.1.same;
      later = wrote.1.gone_on.later;
      ran = laws v (policies_in a) (admin_seen (gate_in a)) [] number may asks a b outcome (admin_none v a) refl wrote.1;
      policies = policies;
      serials = serial;
      lines_are = ap (λ (l : Line). l ∷ []) here ∙ sym (own_one objects images 0 line (ap (λ (l : PhaseLine). actor_of (line_at objects images l) == 0) is));
      whole = λ e. (refl, made e ∙ ap (λ (x : Entry). old ++ x ∷ []) wrote.2);
    }

-- a read
pub administered_read : (objects : Ready) (images : Contents) (phase : ℕ) (done : Bool) (line : PhaseLine) (number : ℕ) (node : List ℕ) (a : Admin) (old new : List Entry) (entry : Entry)
    → line ≡ asked.Read number node
    → (done ≡ true → (new ≡ old ++ entry ∷ []) × (entry ≡ told_entry phase None (record { number = number; task = Read node }) (told (policies_in a).epoch (node_read (policies_in a) node))))
    → HasAdministered objects images phase done (line ∷ []) a a old new
administered_read objects images phase done line number node a old new entry is made =
    let v : Verdicts = verdicts_of objects.script in
    let one : Acted = record { line = record { number = number; task = Read node }; reply = told (policies_in a).epoch (node_read (policies_in a) node) } in
    let none = admin_none v a in
    record {
      some = line ∷ [];
      rest = [];
      cut = refl;
      acted = one ∷ [];
      same = same_self a;
      later = later_same (admin_seen (gate_in a));
      ran = record { since = none.since; ran = (refl, tt); switches = unraised v (policies_in a) node };
      policies = refl;
      serials = omega arith;
      lines_are = ap (λ (l : Line). l ∷ []) (sym (ap (line_at objects images) is)) ∙ sym (own_one objects images 0 line (ap (λ (l : PhaseLine). actor_of (line_at objects images l) == 0) is));
      whole = λ e. (refl, (made e).0 ∙ ap (λ (x : Entry). old ++ x ∷ []) (made e).1);
    }
  where
    unraised : (v : Verdicts) (p : Policies) (node : List ℕ) → AllZip (BeginsWith (gate_basis v)) [] (raised v p (Read node ∷ []))
    unraised v p node = subst (λ (b : Bool). AllZip (BeginsWith (gate_basis v)) [] (cond b [] (p ∷ []))) (sym (eq-eqb p.epoch p.epoch refl)) tt

all_some : (objects : Ready) (images : Contents) (phase : ℕ) (xs : List PhaseLine) (a m : Admin) (old mid : List Entry) (ran : HasAdministered objects images phase true xs a m old mid) → xs ≡ ran.some
all_some objects images phase xs a m old mid ran =
    ran.cut ∙ ap (λ (ls : List PhaseLine). ran.some ++ ls) (ran.whole refl).0 ∙ append-nil ran.some

-- lines, and then more
pub administered_both : (objects : Ready) (images : Contents) (phase : ℕ) (done : Bool) (xs ys : List PhaseLine) (a m b : Admin) (old mid new : List Entry)
    → HasAdministered objects images phase true xs a m old mid → HasAdministered objects images phase done ys m b mid new → HasAdministered objects images phase done (xs ++ ys) a b old new
administered_both objects images phase done xs ys a m b old mid new p q =
    let v : Verdicts = verdicts_of objects.script in
    let files = files_in objects images in
    let first = p.whole refl in
    let one = p.serials in
    let two = q.serials in
    let long : length (xs ++ ys) ≡ length xs + length ys = length-append xs ys in
    record {
      some = xs ++ q.some;
      rest = q.rest;
      cut = ap (λ (ls : List PhaseLine). xs ++ ls) q.cut ∙ sym (append_assoc xs q.some q.rest);
      acted = p.acted ++ q.acted;
      same = same_both a m b p.same q.same;
      later = later_chain (admin_seen (gate_in b)) (admin_seen (gate_in m)) (admin_seen (gate_in a)) q.later p.later;
      ran = admin_both v (policies_in a) (policies_in m) (admin_seen (gate_in a)) (admin_seen (gate_in m)) (admin_seen (gate_in b)) p.acted q.acted p.policies p.ran q.ran;
      policies =
          q.policies ∙ ap (λ (r : Policies). policies_then v r (map task_in q.acted)) p.policies
          ∙ sym (then_both v (policies_in a) (map task_in p.acted) (map task_in q.acted))
          ∙ ap (policies_then v (policies_in a)) (sym (map-append task_in p.acted q.acted));
      serials = omega (arith, one, two, long);
      lines_are =
          map-append line_in p.acted q.acted
          ∙ ap (λ (ls : List Line). ls ++ map line_in q.acted) (p.lines_are ∙ ap (lines_for objects images 0) (sym (all_some objects images phase xs a m old mid p)))
          ∙ ap (λ (ls : List Line). lines_for objects images 0 xs ++ ls) q.lines_are
          ∙ sym (lines_both objects images 0 xs q.some);
      whole = λ e. let second = q.whole e in (
        second.0,
        second.1
            ∙ ap (λ (es : List Entry). es ++ told_phase files phase q.acted) first.1
            ∙ append_assoc old (told_phase files phase p.acted) (told_phase files phase q.acted)
            ∙ ap (λ (es : List Entry). old ++ es) (sym (map-append (entry_of (content_of_line files) phase) p.acted q.acted)),
      );
    }

-- what ended early is a run of more lines
administered_early : (objects : Ready) (images : Contents) (phase : ℕ) (xs ys : List PhaseLine) (a b : Admin) (old new : List Entry)
    → HasAdministered objects images phase false xs a b old new → HasAdministered objects images phase false (xs ++ ys) a b old new
administered_early objects images phase xs ys a b old new p =
    let one = p.serials in
    let long : length (xs ++ ys) ≡ length xs + length ys = length-append xs ys in
    record {
      some = p.some;
      rest = p.rest ++ ys;
      cut = ap (λ (ls : List PhaseLine). ls ++ ys) p.cut ∙ append_assoc p.some p.rest ys;
      acted = p.acted;
      same = p.same;
      later = p.later;
      ran = p.ran;
      policies = p.policies;
      serials = omega (arith, one, long);
      lines_are = p.lines_are;
      whole = λ e. absurd (true≢false (sym e));
    }

pub administered_more : (objects : Ready) (images : Contents) (phase : ℕ) (xs : List PhaseLine) (i : ℕ) (x : PhaseLine) (a m b : Admin) (old mid new : List Entry) → i < length xs → x ≡ get_or xs i x
    → HasAdministered objects images phase true (take i xs) a m old mid → HasAdministered objects images phase true (x ∷ []) m b mid new
    → HasAdministered objects images phase true (take (i + 1) xs) a b old new
administered_more objects images phase xs i x a m b old mid new lt is p q =
    subst (λ (ls : List PhaseLine). HasAdministered objects images phase true ls a b old new) (sym (take_next xs i x lt is)) (administered_both objects images phase true (take i xs) (x ∷ []) a m b old mid new p q)

pub administered_stop : (objects : Ready) (images : Contents) (phase : ℕ) (done : Bool) → done ≡ false → (xs : List PhaseLine) (i : ℕ) (x : PhaseLine) (a m b : Admin) (old mid new : List Entry) → i < length xs → x ≡ get_or xs i x
    → HasAdministered objects images phase true (take i xs) a m old mid → HasAdministered objects images phase false (x ∷ []) m b mid new
    → HasAdministered objects images phase done xs a b old new
administered_stop objects images phase done off xs i x a m b old mid new lt is p q =
    subst (λ (d : Bool). HasAdministered objects images phase d xs a b old new) (sym off)
    (subst (λ (ls : List PhaseLine). HasAdministered objects images phase false ls a b old new) (cut_at xs i x lt is)
    (administered_early objects images phase (take i xs ++ x ∷ []) (drop (i + 1) xs) a b old new (administered_both objects images phase false (take i xs) (x ∷ []) a m b old mid new p q)))

-- the next line has a serial
pub serial_next : (objects : Ready) (images : Contents) (phase : ℕ) (xs : List PhaseLine) (i : ℕ) (a m : Admin) (old mid : List Entry) → i < length xs → (policies_in a).next + length xs ≤ 2 ^ 62
    → HasAdministered objects images phase true (take i xs) a m old mid → (policies_in m).next < 2 ^ 63
serial_next objects images phase xs i a m old mid lt room ran =
    let serials = ran.serials in
    let long : length (take i xs) ≤ i = length-take-most xs i in
    omega (arith, serials, long, room, lt)
  where
    length-take-most : {A : Type 0} (xs : List A) (i : ℕ) → length (take i xs) ≤ i
    length-take-most [] zero = omega arith
    length-take-most [] (suc i) = omega arith
    length-take-most (x ∷ xs) zero = omega arith
    length-take-most (x ∷ xs) (suc i) = let h = length-take-most xs i in omega (arith, h)
