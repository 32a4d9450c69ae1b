-- A phase: its printed entries are what the machine answers.
use Rattle.std.proofs.Common.{◌≡◌, ℕ, zero, suc, ◌+◌, ◌≤◌, ◌==◌, inl, inr, Bool, List, [], ◌∷◌, ◌++◌, map, None, refl, sym, ap, subst, ◌∙◌, arith}
use Rattle.std.specs.List.{AllZip, AllByRecursion, filter_map}
use Rattle.std.proofs.lemmas.Bool.{eqb-true, cases_Bool}
use Rattle.std.proofs.lemmas.Option.{none-some}
use Rattle.ipe_machine.specs.Policies.{Policies}
use Rattle.ipe_machine.specs.Machine.{Machine}
use Rattle.ipe_gate_rule.specs.declared.event.Event.{Event}
use Rattle.ipe_gate_rule.specs.History.{epoch_of}
use Rattle.ipe_gate_rule.specs.Owners.{is_switch}
use Rattle.ipe_transcript.specs.Keys.{UnplacedStand}
use Rattle.ipe_transcript.proofs.Rising.{Rises-tail}
use Rattle.ipe_transcript.proofs.Once.{in_place_once}
use Rattle.ipe_weave.specs.Lines.{Task, Line, LineReply, after_lines, Acted, line_in, task_in, actor_in, entries_of, own_lines, own_entries, reply_key, key_of, NumbersRise, Write, Read, Hook}
use Rattle.ipe_weave.specs.Acts.{Act, acts_of, is_claim_of, Since}
use Rattle.ipe_weave.specs.Basis.{MayBe}
use Rattle.ipe_weave.specs.Standing.{ClaimedAt, IsIdle, HooksRan, AnsweredBy, policies_after, CommandsRan, raised, BeginsWith, claims_by, Agree}
use Rattle.ipe_weave.specs.Phases.{PhaseRan, IsPrinted, Stands}
use Rattle.ipe_weave.proofs.Founded.{Founded}
use Rattle.ipe_weave.proofs.Future.{onto, acts_from, claims_told, claims_reversed, claims_from, acts_onto, claims_onto, coming}
use Rattle.ipe_weave.proofs.Groups.{Group, Cut, cut, laid, cut_whole, EntriesRise, AllCalm, IsCut, cut_is, All_front, All_back, AllOf, own_same, own_other}
use Rattle.ipe_weave.proofs.Ran.{at, Ran, ran_idles, begins-first, Ordered, Commanded, calmed_all, ran_calms}
use Rattle.ipe_weave.proofs.Walk.{merged, HooksGo, CommandsGo, Done, walk}
use Rattle.ipe_weave.proofs.Lead.{leads, leads_all, leads_none, leads_own, leads_stand, calm_nowhere}

-- lists with the same beginning
append_same : {X : Type 0} (xs ys zs : List X) → xs ++ ys ≡ xs ++ zs → ys ≡ zs
append_same [] ys zs same = same
append_same (x ∷ xs) ys zs same = append_same xs ys zs cc

-- an actor's own entries are of it
own_are : (actor : ℕ) (xs : List Acted) → AllOf actor (own_entries actor xs)
own_are actor [] = tt
own_are actor (x ∷ xs) = elim (cases_Bool (actor_in x == actor)) [
  | inl is ↦ rw is (eqb-true (actor_in x) actor is, own_are actor xs)
  | inr is ↦ rw is (own_are actor xs)
]

-- the lines of an actor's own entries are its own lines
pub own_map : (actor : ℕ) (xs : List Acted) → own_lines actor (map line_in xs) ≡ map line_in (own_entries actor xs)
own_map actor [] = refl
own_map actor (x ∷ xs) = elim (cases_Bool (actor_in x == actor)) [
  | inl is ↦ rw is (ap (λ (ls : List Line). x.line ∷ ls) (own_map actor xs))
  | inr is ↦ rw is (own_map actor xs)
]

-- what holds of the administrator and of each worker holds of each actor
by_actor : (P : ℕ → Type 0) → P 0 → ((p : ℕ) → P (p + 1)) → (actor : ℕ) → P actor
by_actor P zeroth more zero = zeroth
by_actor P zeroth more (suc p) =
    let e : p + 1 ≡ suc p = omega arith in
    subst P e (more p)

-- a phase's entries in the order of its events
module _ (workers : ℕ) (entries : List Acted) where
  abbrev pub command_cut : Cut
  command_cut = cut (own_entries 0 entries)

  abbrev pub hook_cut : ℕ → Cut
  hook_cut p = cut (own_entries (p + 1) entries)

  abbrev pub groups_of : ℕ → List Group
  groups_of p = (hook_cut p).groups

  abbrev pub lead_of : ℕ → List Acted
  lead_of p = (hook_cut p).lead

  abbrev pub woven : List Event → List Acted
  woven t = leads lead_of 0 workers ++ (command_cut.lead ++ merged command_cut.groups groups_of t)

-- what is made of a phase
record Made (g : Founded) (machine : Machine) (s t : List Event) (entries printed : List Acted) : Type 0 where
  replies : entries_of g.basis.verdicts machine (map line_in printed) ≡ printed
  final : Agree g.basis (after_lines g.basis.verdicts machine (map line_in printed)) (onto s t)
  claims : claims_from s t ≡ claims_by g.basis.verdicts machine (map line_in printed)
  laid_out : IsPrinted entries printed

-- a worker's groups and its claims
hooks_go : (g : Founded) (p : ℕ) (xs : List Acted) (acts : List Act) → HooksRan g.basis acts xs → AllOf (p + 1) xs → HooksGo g p (cut xs).groups acts
hooks_go g p xs acts ran own =
    let is = cut_is xs in record {
      claims = subst (λ (es : List Acted). AllZip (ClaimedAt g.basis) es acts) is.heads ran.claims;
      groups = is.groups;
      idle = All_back IsIdle (cut xs).lead (laid (cut xs).groups) (subst (AllByRecursion IsIdle) (sym (cut_whole xs)) ran.idle);
      own = All_back _ (cut xs).lead (laid (cut xs).groups) (subst (AllOf (p + 1)) (sym (cut_whole xs)) own);
    }

-- a worker's first entries
lead_idle : (g : Founded) (xs : List Acted) (acts : List Act) → HooksRan g.basis acts xs → AllByRecursion IsIdle (cut xs).lead
lead_idle g xs acts ran = All_front IsIdle (cut xs).lead (laid (cut xs).groups) (subst (AllByRecursion IsIdle) (sym (cut_whole xs)) ran.idle)

lead_own : (actor : ℕ) (xs : List Acted) → AllOf actor xs → AllOf actor (cut xs).lead
lead_own actor xs own = All_front _ (cut xs).lead (laid (cut xs).groups) (subst (AllOf actor) (sym (cut_whole xs)) own)

-- a command's entry has a place
command_placed : (g : Founded) (policies : Policies) (number : ℕ) (task : Task) (reply : LineReply) → AnsweredBy g.basis.verdicts policies task reply → reply_key number reply ≡ None → ⊥
command_placed g policies number (Write may asked) reply answered none = none-some _ (sym none ∙ ap (λ (r : LineReply). reply_key number r) answered)
command_placed g policies number (Read node) reply answered none = none-some _ (sym none ∙ ap (λ (r : LineReply). reply_key number r) answered)
command_placed g policies number (Hook worker op access) reply answered none = answered

-- commands stand wherever they are
commands_stand : (g : Founded) (policies : Policies) (xs behind rest : List Acted) → CommandsRan g.basis.verdicts policies (xs ++ behind) → ((b : List Acted) → UnplacedStand actor_in key_of b rest) → (b : List Acted) → UnplacedStand actor_in key_of b (xs ++ rest)
commands_stand g policies [] behind rest ran stand b = stand b
commands_stand g policies (x ∷ xs) behind rest ran stand b = (
  (λ none. absurd (command_placed g policies x.line.number x.line.task x.reply ran.0 none)),
  commands_stand g (policies_after g.basis.verdicts policies x.line.task) xs behind rest ran.1 stand (x ∷ b),
)

-- each actor's own are as they were: the administrator's
own_commands : (lead : ℕ → List Acted) (workers : ℕ) (first merged laid_out own : List Acted) → ((p : ℕ) → AllOf (p + 1) (lead p)) → AllOf 0 first → own_entries 0 merged ≡ laid_out → first ++ laid_out ≡ own
    → own_entries 0 (leads lead 0 workers ++ (first ++ merged)) ≡ own
own_commands lead workers first merged laid_out own owns firsts is whole =
    leads_none lead 0 workers 0 (first ++ merged) (omega arith) owns
    ∙ own_same 0 first merged firsts
    ∙ ap (λ (es : List Acted). first ++ es) is
    ∙ whole

-- and each worker's
own_hooks : (lead : ℕ → List Acted) (workers p : ℕ) (first merged laid_out own : List Acted) → ((b : ℕ) → AllOf (b + 1) (lead b)) → (workers ≤ p → lead p ≡ []) → AllOf 0 first → own_entries (p + 1) merged ≡ laid_out → lead p ++ laid_out ≡ own
    → own_entries (p + 1) (leads lead 0 workers ++ (first ++ merged)) ≡ own
own_hooks lead workers p first merged laid_out own owns few firsts is whole =
    leads_own lead 0 workers p (first ++ merged) (omega arith) (λ h. few (omega (arith, h))) owns
    ∙ ap (λ (es : List Acted). lead p ++ es) (own_other (p + 1) 0 first merged (λ e. omega (arith, e)) firsts ∙ is)
    ∙ whole

make : (g : Founded) (workers : ℕ) (machine : Machine) (s t : List Event) (entries : List Acted)
    → Agree g.basis machine s → MayBe g.basis (onto s t) → CommandsRan g.basis.verdicts machine.policies (own_entries 0 entries) → EntriesRise (own_entries 0 entries)
    → AllZip (BeginsWith g.basis) (acts_from is_switch s t) (raised g.basis.verdicts machine.policies (map task_in (own_entries 0 entries)))
    → ((p : ℕ) → HooksRan g.basis (acts_from (is_claim_of p) s t) (own_entries (p + 1) entries))
    → ((p : ℕ) → workers ≤ p → own_entries (p + 1) entries ≡ [])
    → Made g machine s t entries (woven workers entries t)
make g workers machine s t entries agree legal commands numbers switches hooks few =
    let c : Cut = command_cut workers entries in
    let whole : c.lead ++ laid c.groups ≡ own_entries 0 entries = cut_whole (own_entries 0 entries) in
    let is : IsCut (own_entries 0 entries) c = cut_is (own_entries 0 entries) in
    let begun : Commanded g machine s (acts_from is_switch s t) (c.lead ++ laid c.groups) =
    subst (Commanded g machine s (acts_from is_switch s t)) (sym whole) (record { agrees = agree; ran = commands; numbers = numbers; switches = switches }) in
    let behind = calmed_all g machine s (acts_from is_switch s t) c.lead (laid c.groups) is.lead begun in
    let q : ℕ → List Group = groups_of workers entries in
    let lead : ℕ → List Acted = lead_of workers entries in
    let go : CommandsGo g (after_lines g.basis.verdicts machine (map line_in c.lead)).policies c.groups (acts_from is_switch s t) = record {
      ran = behind.ran;
      switches = behind.switches;
      numbers = behind.numbers;
      groups = is.groups;
      own = All_back _ c.lead (laid c.groups) (subst (AllOf 0) (sym whole) (own_are 0 entries));
    } in
    let done : Done g (after_lines g.basis.verdicts machine (map line_in c.lead)) s t c.groups q (merged c.groups q t) =
    walk g t s (after_lines g.basis.verdicts machine (map line_in c.lead)) c.groups q behind.agrees legal go (λ p. hooks_go g p (own_entries (p + 1) entries) (acts_from (is_claim_of p) s t) (hooks p) (own_are (p + 1) entries)) in
    let firsts : AllOf 0 c.lead = All_front _ c.lead (laid c.groups) (subst (AllOf 0) (sym whole) (own_are 0 entries)) in
    let rest : List Acted = c.lead ++ merged c.groups q t in
    let ran : Ran g (Ordered c.lead) machine s t rest = ran_calms g machine s t (acts_from is_switch s t) (merged c.groups q t) c.lead (laid c.groups) is.lead begun done.ran in
    let idles : (p : ℕ) → AllByRecursion IsIdle (lead p) = λ p. lead_idle g (own_entries (p + 1) entries) (acts_from (is_claim_of p) s t) (hooks p) in
    let calms : (p : ℕ) → AllCalm (lead p) = λ p. (cut_is (own_entries (p + 1) entries)).lead in
    let owns : (p : ℕ) → AllOf (p + 1) (lead p) = λ p. lead_own (p + 1) (own_entries (p + 1) entries) (own_are (p + 1) entries) in
    let all : Ran g (Ordered c.lead) machine s t (leads lead 0 workers ++ rest) =
    ran_idles g (Ordered c.lead) machine s t rest (leads lead 0 workers) (leads_all IsIdle lead 0 workers idles) (leads_all _ lead 0 workers calms) ran in record {
      replies = all.replies;
      final = all.final;
      claims = all.claims;
      laid_out = record {
        own = λ actor. by_actor (λ n. own_entries n (leads lead 0 workers ++ rest) ≡ own_entries n entries)
            (own_commands lead workers c.lead (merged c.groups q t) (laid c.groups) (own_entries 0 entries) owns firsts done.commands whole)
            (λ p. own_hooks lead workers p c.lead (merged c.groups q t) (laid (q p)) (own_entries (p + 1) entries) owns (λ h. ap (λ (es : List Acted). (cut es).lead) (few p h)) firsts (done.hooks p) (cut_whole (own_entries (p + 1) entries)))
            actor;
        in_place = record {
          rises = Rises-tail (at (epoch_of s) 0 0) (filter_map key_of (leads lead 0 workers ++ rest)) (all.rises 0 0 (omega arith, begins-first c.lead));
          stand = leads_stand lead 0 workers [] rest owns (λ p. calm_nowhere g (lead p) (idles p) (calms p)) tt
              (commands_stand g machine.policies c.lead (laid c.groups) (merged c.groups q t) begun.ran done.stands);
        };
      };
    }

-- the events of a phase that pass a test
since_from : (test : Event → Bool) (s t after : List Event) → onto s t ≡ after → (since : Since test s after) → since.acts ≡ acts_from test s t
since_from test s t after is since =
    append_same (acts_of test s) since.acts (acts_from test s t) (sym since.came ∙ ap (acts_of test) (sym is) ∙ acts_onto test s t)

-- a phase's entries, as they are printed, are what the machine answers
pub phase_stands : (g : Founded) (workers : ℕ) (machine : Machine) (before after : List Event) (lines : List Line) (entries printed : List Acted)
    → Agree g.basis machine before → MayBe g.basis after → PhaseRan g.basis workers machine.policies before after lines entries → IsPrinted entries printed → Stands g.basis machine before after lines printed
phase_stands g workers machine before after lines entries printed agree legal ran is =
    let come = coming before ran.later.0 in
    let t : List Event = come.0 in
    let whole : onto before t ≡ after = come.1 ∙ sym ran.later.1 in
    let made = make g workers machine before t entries agree (subst (MayBe g.basis) (sym whole) legal) ran.commands (subst NumbersRise (sym (ran.all 0)) ran.numbers)
    (subst (λ (acts : List Act). AllZip (BeginsWith g.basis) acts (raised g.basis.verdicts machine.policies (map task_in (own_entries 0 entries)))) (since_from is_switch before t after whole ran.switches.0) ran.switches.1)
    (λ p. subst (λ (acts : List Act). HooksRan g.basis acts (own_entries (p + 1) entries)) (since_from (is_claim_of p) before t after whole (ran.hooks p).0) (ran.hooks p).1)
    ran.few in
    let same : woven workers entries t ≡ printed = in_place_once actor_in key_of (woven workers entries t) printed (λ actor. made.laid_out.own actor ∙ sym (is.own actor)) made.laid_out.in_place is.in_place in
    let final : Made g machine before t entries printed = subst (Made g machine before t entries) same made in record {
      replies = final.replies;
      agrees = subst (Agree g.basis (after_lines g.basis.verdicts machine (map line_in printed))) whole final.final;
      claims =
          claims_reversed after
          ∙ ap claims_told (sym whole)
          ∙ claims_onto before t
          ∙ ap (λ (cs : List (ℕ × ℕ × ℕ)). claims_told before ++ cs) final.claims
          ∙ ap (λ (cs : List (ℕ × ℕ × ℕ)). cs ++ claims_by g.basis.verdicts machine (map line_in printed)) (sym (claims_reversed before));
      weave = λ actor. own_map actor printed ∙ ap (map line_in) (is.own actor) ∙ ran.all actor;
    }

-- a phase's entries have an order in which they are printed
pub phase_prints : (g : Founded) (workers : ℕ) (machine : Machine) (before after : List Event) (lines : List Line) (entries : List Acted)
    → Agree g.basis machine before → MayBe g.basis after → PhaseRan g.basis workers machine.policies before after lines entries → (printed : List Acted) × IsPrinted entries printed
phase_prints g workers machine before after lines entries agree legal ran =
    let come = coming before ran.later.0 in
    let t : List Event = come.0 in
    let whole : onto before t ≡ after = come.1 ∙ sym ran.later.1 in
    let made = make g workers machine before t entries agree (subst (MayBe g.basis) (sym whole) legal) ran.commands (subst NumbersRise (sym (ran.all 0)) ran.numbers)
    (subst (λ (acts : List Act). AllZip (BeginsWith g.basis) acts (raised g.basis.verdicts machine.policies (map task_in (own_entries 0 entries)))) (since_from is_switch before t after whole ran.switches.0) ran.switches.1)
    (λ p. subst (λ (acts : List Act). HooksRan g.basis acts (own_entries (p + 1) entries)) (since_from (is_claim_of p) before t after whole (ran.hooks p).0) (ran.hooks p).1)
    ran.few in
    (woven workers entries t, made.laid_out)
