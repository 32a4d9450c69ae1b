-- The order that a history gives: each switch takes the administrator's next group of entries, each claim its worker's.
use Rattle.std.proofs.Common.{◌≡◌, ℕ, ◌+◌, ◌==◌, inl, inr, Bool, false, cond, List, [], ◌∷◌, ◌++◌, map, refl, sym, ap, subst, ◌∙◌, arith}
use Rattle.std.specs.List.{AllZip, AllByRecursion}
use Rattle.std.proofs.lemmas.Bool.{eqb-true, eqb-false, eq-eqb, cases_Bool}
use Rattle.std.proofs.lemmas.Option.{none-some}
use Rattle.ipe_machine.specs.Policies.{Policies}
use Rattle.ipe_machine.specs.Machine.{Machine}
use Rattle.ipe_gate_rule.specs.declared.event.Event.{Event}
use Rattle.ipe_gate_rule.specs.declared.event.Event.TheVariants.{Store, Switch, Claim, Return, Look}
use Rattle.ipe_gate_rule.specs.Owners.{is_switch}
use Rattle.ipe_transcript.specs.Keys.{UnplacedStand}
use Rattle.ipe_weave.specs.Lines.{after_line, after_lines, Acted, line_in, task_in, actor_in, own_entries, key_of}
use Rattle.ipe_weave.specs.Acts.{Act, is_claim_of}
use Rattle.ipe_weave.specs.Basis.{MayBe}
use Rattle.ipe_weave.specs.Standing.{ClaimedAt, IsIdle, policies_after, CommandsRan, raised, BeginsWith, Agree}
use Rattle.ipe_weave.proofs.Founded.{Founded}
use Rattle.ipe_weave.proofs.Agree.{store_agrees, return_agrees, look_agrees}
use Rattle.ipe_weave.proofs.Future.{onto, acts_from, legal_before}
use Rattle.ipe_weave.proofs.Groups.{Group, laid, heads, EntriesRise, IsGroup, All_front, All_back, AllOf, own_same, own_other, follow}
use Rattle.ipe_weave.proofs.Ran.{Ran, Counted, ran_idles, claim_step, ran_claim, raises_epoch, switch_step, numbers-first, ran_switch, Commanded, calmed_all, ran_calms}

abbrev pub first_of : List Group → List Acted
first_of [] = []
first_of (gr ∷ gs) = gr.head ∷ gr.idle

abbrev pub rest_of : List Group → List Group
rest_of [] = []
rest_of (gr ∷ gs) = gs

-- the queues with the first group of one taken
abbrev pub taken : ℕ → (ℕ → List Group) → ℕ → List Group
taken p q b = cond (b == p) (rest_of (q b)) (q b)

-- the entries in the order of the events that come
abbrev pub merged : List Group → (ℕ → List Group) → List Event → List Acted
merged c q [] = []
merged c q (Store s i w ∷ t) = merged c q t
merged c q (Switch s e u ∷ t) = first_of c ++ merged (rest_of c) q t
merged c q (Claim p ∷ t) = first_of (q p) ++ merged c (taken p q) t
merged c q (Return p ∷ t) = merged c q t
merged c q (Look s ∷ t) = merged c q t

-- one worker's groups, and its claims that come
pub record HooksGo (g : Founded) (p : ℕ) (gs : List Group) (acts : List Act) : Type 0 where
  pub claims : AllZip (ClaimedAt g.basis) (heads gs) acts
  pub groups : AllByRecursion IsGroup gs
  pub idle : AllByRecursion IsIdle (laid gs)
  pub own : AllOf (p + 1) (laid gs)

-- the administrator's groups, and its switches that come
pub record CommandsGo (g : Founded) (policies : Policies) (gs : List Group) (acts : List Act) : Type 0 where
  pub ran : CommandsRan g.basis.verdicts policies (laid gs)
  pub switches : AllZip (BeginsWith g.basis) acts (raised g.basis.verdicts policies (map task_in (laid gs)))
  pub numbers : EntriesRise (laid gs)
  pub groups : AllByRecursion IsGroup gs
  pub own : AllOf 0 (laid gs)

-- what the order has
pub record Done (g : Founded) (machine : Machine) (s t : List Event) (c : List Group) (q : ℕ → List Group) (entries : List Acted) : Type 0 where
  pub ran : Ran g (Counted s) machine s t entries
  pub stands : (before : List Acted) → UnplacedStand actor_in key_of before entries
  pub commands : own_entries 0 entries ≡ laid c
  pub hooks : (p : ℕ) → own_entries (p + 1) entries ≡ laid (q p)

-- no group, where no event comes
no_groups : (g : Founded) (gs : List Group) → AllZip (ClaimedAt g.basis) (heads gs) [] → laid gs ≡ []
no_groups g [] zip = refl
no_groups g (gr ∷ gs) zip = absurd zip

-- the administrator has none either: each group raises the epoch
no_commands : (g : Founded) (policies : Policies) (gs : List Group) → CommandsGo g policies gs [] → laid gs ≡ []
no_commands g policies [] go = refl
no_commands g policies (gr ∷ gs) go =
    absurd (gone (raises_epoch g policies gr.head.line.task gr.head.reply go.ran.0 go.groups.0.0) go.switches)
  where
    gone : ((policies_after g.basis.verdicts policies gr.head.line.task).epoch == policies.epoch) ≡ false → AllZip (BeginsWith g.basis) [] (raised g.basis.verdicts policies (gr.head.line.task ∷ map task_in (gr.idle ++ laid gs))) → ⊥
    gone raises zip = rw raises at zip

done_end : (g : Founded) (machine : Machine) (s : List Event) (c : List Group) (q : ℕ → List Group) → Agree g.basis machine s → CommandsGo g machine.policies c [] → ((p : ℕ) → HooksGo g p (q p) []) → Done g machine s [] c q []
done_end g machine s c q agree commands hooks = record {
  ran = record { replies = refl; final = agree; claims = refl; rises = λ r w allowed. tt };
  stands = λ before. tt;
  commands = sym (no_commands g machine.policies c commands);
  hooks = λ p. sym (no_groups g (q p) (hooks p).claims);
}

-- Unfolding of the claims that come at a claim
claims_here : (p : ℕ) (s t : List Event) → acts_from (is_claim_of p) s (Claim p ∷ t) ≡ record { event = Claim p; before = s } ∷ acts_from (is_claim_of p) (Claim p ∷ s) t
claims_here p s t = rw (eq-eqb p p refl) refl

claims_else : (b p : ℕ) (s t : List Event) → (b == p) ≡ false → acts_from (is_claim_of b) s (Claim p ∷ t) ≡ acts_from (is_claim_of b) (Claim p ∷ s) t
claims_else b p s t other = rw other refl

-- a claim takes its worker's first group: what is left of it
module _ (g : Founded) (p : ℕ) (gs : List Group) (act : Act) (acts : List Act) where
  abbrev Taken : Group → List Group → Type 0
  Taken gr rest = (gs ≡ gr ∷ rest) × ClaimedAt g.basis gr.head act × IsGroup gr × AllByRecursion IsIdle (gr.head ∷ gr.idle) × AllOf (p + 1) (gr.head ∷ gr.idle) × HooksGo g p rest acts

take_group : (g : Founded) (p : ℕ) (gs : List Group) (act : Act) (acts : List Act) → HooksGo g p gs (act ∷ acts) → (gr : Group) × (rest : List Group) × Taken g p gs act acts gr rest
take_group g p [] act acts go = absurd go.claims
take_group g p (gr ∷ rest) act acts go = (
  gr,
  rest,
  (
    refl,
    go.claims.0,
    go.groups.0,
    (go.idle.0, All_front IsIdle gr.idle (laid rest) go.idle.1),
    (go.own.0, All_front _ gr.idle (laid rest) go.own.1),
    record {
      claims = go.claims.1;
      groups = go.groups.1;
      idle = All_back IsIdle gr.idle (laid rest) go.idle.1;
      own = All_back _ gr.idle (laid rest) go.own.1;
    },
  ),
)

-- the other workers' claims and groups are as they were
hooks_next : (g : Founded) (p : ℕ) (q : ℕ → List Group) (s t : List Event) → ((b : ℕ) → HooksGo g b (q b) (acts_from (is_claim_of b) s (Claim p ∷ t)))
    → HooksGo g p (rest_of (q p)) (acts_from (is_claim_of p) (Claim p ∷ s) t)
    → (b : ℕ) → HooksGo g b (taken p q b) (acts_from (is_claim_of b) (Claim p ∷ s) t)
hooks_next g p q s t hooks rest b =
    elim (cases_Bool (b == p)) [
      | inl same ↦ rw same (subst (λ (n : ℕ). HooksGo g n (rest_of (q n)) (acts_from (is_claim_of n) (Claim p ∷ s) t)) (sym (eqb-true b p same)) rest)
      | inr other ↦ rw other (subst (λ (a : List Act). HooksGo g b (q b) a) (claims_else b p s t other) (hooks b))
    ]

-- a claim in front
done_claim : (g : Founded) (machine : Machine) (p : ℕ) (s t : List Event) (c : List Group) (q : ℕ → List Group) (entries : List Acted) (gr : Group) (rest : List Group)
    → q p ≡ gr ∷ rest → Agree g.basis machine s → ClaimedAt g.basis gr.head (record { event = Claim p; before = s }) → IsGroup gr → AllByRecursion IsIdle (gr.head ∷ gr.idle) → AllOf (p + 1) (gr.head ∷ gr.idle)
    → Done g (after_line g.basis.verdicts machine gr.head.line) (Claim p ∷ s) t c (taken p q) entries
    → Done g machine s (Claim p ∷ t) c q (gr.head ∷ (gr.idle ++ entries))
done_claim g machine p s t c q entries gr rest first agree claimed group idle own done =
    let step = claim_step g machine s p gr.head.line.task gr.head.reply agree claimed group.0 own.0 in record {
      ran = ran_claim g machine s t p (gr.idle ++ entries) gr.head step (ran_idles g (Counted (Claim p ∷ s)) (after_line g.basis.verdicts machine gr.head.line) (Claim p ∷ s) t entries gr.idle idle.1 group.1 done.ran);
      stands = λ before. (
        (λ none. absurd (none-some _ (sym none ∙ step.place gr.head.line.number))),
        follow (p + 1) gr.head before gr.idle entries own.0 own.1 done.stands,
      );
      commands = own_other 0 (p + 1) (gr.head ∷ gr.idle) entries (λ e. omega (arith, e)) own ∙ done.commands;
      hooks = λ b. elim (cases_Bool (b == p)) [
        | inl same ↦
            let e : b ≡ p = eqb-true b p same in
            let left : taken p q b ≡ rest = rw same (ap (λ (n : ℕ). rest_of (q n)) e ∙ ap rest_of first) in
            subst (λ (n : ℕ). own_entries (n + 1) (gr.head ∷ (gr.idle ++ entries)) ≡ laid (q n)) (sym e) (
            own_same (p + 1) (gr.head ∷ gr.idle) entries own
            ∙ ap (λ (xs : List Acted). gr.head ∷ (gr.idle ++ xs)) (subst (λ (n : ℕ). own_entries (n + 1) entries ≡ laid rest) e (done.hooks b ∙ ap laid left))
            ∙ sym (ap laid first)
            )
        | inr other ↦
            let still : taken p q b ≡ q b = rw other refl in
            own_other (b + 1) (p + 1) (gr.head ∷ gr.idle) entries (λ e. eqb-false b p other (omega (arith, e))) own ∙ done.hooks b ∙ ap laid still
      ];
    }

-- a switch in front
done_switch : (g : Founded) (machine : Machine) (slot : ℕ) (e u : Bool) (s t : List Event) (acts : List Act) (gr : Group) (rest : List Group) (q : ℕ → List Group) (entries : List Acted)
    → Commanded g machine s (record { event = Switch slot e u; before = s } ∷ acts) (laid (gr ∷ rest)) → IsGroup gr → AllOf 0 (laid (gr ∷ rest))
    → ((m : Machine) → Commanded g m (Switch slot e u ∷ s) acts (laid rest) → Done g m (Switch slot e u ∷ s) t rest q entries)
    → Done g machine s (Switch slot e u ∷ t) (gr ∷ rest) q (gr.head ∷ (gr.idle ++ entries))
done_switch g machine slot e u s t acts gr rest q entries go group own next =
    let raises = raises_epoch g machine.policies gr.head.line.task gr.head.reply go.ran.0 group.0 in
    let both : g.basis.Begins (Switch slot e u) s (policies_after g.basis.verdicts machine.policies gr.head.line.task) × AllZip (BeginsWith g.basis) acts (raised g.basis.verdicts (policies_after g.basis.verdicts machine.policies gr.head.line.task) (map task_in (gr.idle ++ laid rest))) = rw raises at go.switches in
    let step = switch_step g machine s slot e u gr.head.line.task gr.head.reply go.agrees go.ran.0 group.0 both.0 in
    let then : Commanded g (after_line g.basis.verdicts machine gr.head.line) (Switch slot e u ∷ s) acts (gr.idle ++ laid rest) = record {
      agrees = step.agrees;
      ran = subst (λ (p : Policies). CommandsRan g.basis.verdicts p (gr.idle ++ laid rest)) (sym step.policies) go.ran.1;
      numbers = (numbers-first gr.head (gr.idle ++ laid rest) go.numbers).1;
      switches = subst (λ (p : Policies). AllZip (BeginsWith g.basis) acts (raised g.basis.verdicts p (map task_in (gr.idle ++ laid rest)))) (sym step.policies) both.1;
    } in
    let done = next (after_lines g.basis.verdicts (after_line g.basis.verdicts machine gr.head.line) (map line_in gr.idle)) (calmed_all g (after_line g.basis.verdicts machine gr.head.line) (Switch slot e u ∷ s) acts gr.idle (laid rest) group.1 then) in
    let idle_own : AllOf 0 gr.idle = All_front _ gr.idle (laid rest) own.1 in
    let front : AllOf 0 (gr.head ∷ gr.idle) = (own.0, idle_own) in record {
      ran = ran_switch g machine s t slot e u (gr.idle ++ entries) gr.head gr.idle step (ran_calms g (after_line g.basis.verdicts machine gr.head.line) (Switch slot e u ∷ s) t acts entries gr.idle (laid rest) group.1 then done.ran);
      stands = λ before. (
        (λ none. absurd (none-some _ (sym none ∙ step.place gr.head.line.number))),
        follow 0 gr.head before gr.idle entries own.0 idle_own done.stands,
      );
      commands = own_same 0 (gr.head ∷ gr.idle) entries front ∙ ap (λ (xs : List Acted). gr.head ∷ (gr.idle ++ xs)) done.commands;
      hooks = λ b. own_other (b + 1) 0 (gr.head ∷ gr.idle) entries (λ e. omega (arith, e)) front ∙ done.hooks b;
    }

-- a step that nobody prints
done_store : (g : Founded) (machine : Machine) (slot index word : ℕ) (s t : List Event) (c : List Group) (q : ℕ → List Group) (entries : List Acted) → Done g machine (Store slot index word ∷ s) t c q entries → Done g machine s (Store slot index word ∷ t) c q entries
done_store g machine slot index word s t c q entries done = record { ran = record { replies = done.ran.replies; final = done.ran.final; claims = done.ran.claims; rises = done.ran.rises }; stands = done.stands; commands = done.commands; hooks = done.hooks }

done_return : (g : Founded) (machine : Machine) (p : ℕ) (s t : List Event) (c : List Group) (q : ℕ → List Group) (entries : List Acted) → Done g machine (Return p ∷ s) t c q entries → Done g machine s (Return p ∷ t) c q entries
done_return g machine p s t c q entries done = record { ran = record { replies = done.ran.replies; final = done.ran.final; claims = done.ran.claims; rises = done.ran.rises }; stands = done.stands; commands = done.commands; hooks = done.hooks }

done_look : (g : Founded) (machine : Machine) (slot : ℕ) (s t : List Event) (c : List Group) (q : ℕ → List Group) (entries : List Acted) → Done g machine (Look slot ∷ s) t c q entries → Done g machine s (Look slot ∷ t) c q entries
done_look g machine slot s t c q entries done = record { ran = record { replies = done.ran.replies; final = done.ran.final; claims = done.ran.claims; rises = done.ran.rises }; stands = done.stands; commands = done.commands; hooks = done.hooks }

-- the administrator has a group for a switch
switch_done : (g : Founded) (machine : Machine) (slot : ℕ) (e u : Bool) (s t : List Event) (acts : List Act) (c : List Group) (q : ℕ → List Group)
    → Agree g.basis machine s → CommandsGo g machine.policies c (record { event = Switch slot e u; before = s } ∷ acts)
    → ((m : Machine) → Agree g.basis m (Switch slot e u ∷ s) → CommandsGo g m.policies (rest_of c) acts → Done g m (Switch slot e u ∷ s) t (rest_of c) q (merged (rest_of c) q t))
    → Done g machine s (Switch slot e u ∷ t) c q (first_of c ++ merged (rest_of c) q t)
switch_done g machine slot e u s t acts [] q agree go next = absurd go.switches
switch_done g machine slot e u s t acts (gr ∷ rest) q agree go next =
    done_switch g machine slot e u s t acts gr rest q (merged rest q t)
    (record { agrees = agree; ran = go.ran; numbers = go.numbers; switches = go.switches }) go.groups.0 go.own
    (λ m commanded. next m commanded.agrees (record { ran = commanded.ran; switches = commanded.switches; numbers = commanded.numbers; groups = go.groups.1; own = All_back _ gr.idle (laid rest) go.own.1 }))

-- the history's order
pub walk : (g : Founded) (t s : List Event) (machine : Machine) (c : List Group) (q : ℕ → List Group) → Agree g.basis machine s → MayBe g.basis (onto s t) → CommandsGo g machine.policies c (acts_from is_switch s t) → ((p : ℕ) → HooksGo g p (q p) (acts_from (is_claim_of p) s t))
    → Done g machine s t c q (merged c q t)
walk g [] s machine c q agree legal commands hooks = done_end g machine s c q agree commands hooks
walk g (Store slot i w ∷ t) s machine c q agree legal commands hooks =
    done_store g machine slot i w s t c q (merged c q t) (walk g t (Store slot i w ∷ s) machine c q (store_agrees g machine s slot i w (legal_before g (Store slot i w ∷ s) t legal).0 agree) legal commands hooks)
walk g (Return p ∷ t) s machine c q agree legal commands hooks =
    done_return g machine p s t c q (merged c q t) (walk g t (Return p ∷ s) machine c q (return_agrees g machine s p agree) legal commands hooks)
walk g (Look slot ∷ t) s machine c q agree legal commands hooks =
    done_look g machine slot s t c q (merged c q t) (walk g t (Look slot ∷ s) machine c q (look_agrees g machine s slot agree) legal commands hooks)
walk g (Switch slot e u ∷ t) s machine c q agree legal commands hooks =
    switch_done g machine slot e u s t (acts_from is_switch (Switch slot e u ∷ s) t) c q agree commands
    (λ m then go. walk g t (Switch slot e u ∷ s) m (rest_of c) q then legal go hooks)
walk g (Claim p ∷ t) s machine c q agree legal commands hooks =
    let took = take_group g p (q p) (record { event = Claim p; before = s }) (acts_from (is_claim_of p) (Claim p ∷ s) t) (subst (λ (a : List Act). HooksGo g p (q p) a) (claims_here p s t) (hooks p)) in
    let gr : Group = took.0 in
    let rest : List Group = took.1 in
    let is = took.2 in
    let step = claim_step g machine s p gr.head.line.task gr.head.reply agree is.1 is.2.0 is.4.0 in
    let left : HooksGo g p (rest_of (q p)) (acts_from (is_claim_of p) (Claim p ∷ s) t) = subst (λ (gs : List Group). HooksGo g p (rest_of gs) (acts_from (is_claim_of p) (Claim p ∷ s) t)) (sym is.0) is.5 in
    let done = walk g t (Claim p ∷ s) (after_line g.basis.verdicts machine gr.head.line) c (taken p q) step.agrees legal (subst (λ (x : Policies). CommandsGo g x c (acts_from is_switch (Claim p ∷ s) t)) (sym step.policies) commands) (hooks_next g p q s t hooks left) in
    subst (λ (gs : List Group). Done g machine s (Claim p ∷ t) c q (first_of gs ++ merged c (taken p q) t)) (sym is.0)
    (done_claim g machine p s t c q (merged c (taken p q) t) gr rest is.0 agree is.1 is.2 is.3 is.4 done)
