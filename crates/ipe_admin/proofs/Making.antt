-- A change, from its image to the slot that is let go of.
use Rattle.std.proofs.Common.{◌≡◌, ◌≢◌, ℕ, ◌+◌, ◌<◌, ◌≤◌, Bool, true, false, cond, List, [], ◌∷◌, ◌++◌, length, map, Option, Some, None, refl, sym, ap, subst, ◌∙◌, arith, append-nil, append_assoc}
use Rattle.std.specs.List.{AllZip}
use Rattle.std.proofs.lemmas.Bool.{eq-eqb, ne_eqb, true≢false}
use Rattle.ipe_image.specs.Law.{AreOfPolicies, ReadAsThemselves}
use Rattle.ipe_image.specs.Reading.{image_in}
use Rattle.ipe_machine.specs.Policies.{Policies, Loaded, active_entry}
use Rattle.ipe_machine.specs.Change.{Change, entry_in, made, raises}
use Rattle.ipe_machine.specs.Epochs.{ActiveIsLoaded}
use Rattle.ipe_gate_rule.specs.declared.event.Event.{Event}
use Rattle.ipe_gate_rule.specs.declared.event.Event.TheVariants.{Switch}
use Rattle.ipe_gate_rule.specs.History.{GoesOnFrom, active_slot, content, enforce_of, epoch_of, success_of}
use Rattle.ipe_gate_rule.specs.Regions.{words_at}
use Rattle.ipe_gate_rule.specs.Owners.{administrator_events, is_switch}
use Rattle.ipe_gate.specs.declared.administrator.GateAdmin.{GateAdmin}
use Rattle.ipe_gate.specs.declared.administrator.Old.{Old}
use Rattle.ipe_gate.specs.Seats.{admin_gate, admin_mine, admin_seen, passes_made}
use Rattle.ipe_gate.specs.Placing.{looks_to, stores_of}
use Rattle.ipe_gate.specs.Switching.{IsSwitch}
use Rattle.ipe_weave.specs.Acts.{Act, acts_of}
use Rattle.ipe_weave.specs.Gate.{Holds}
use Rattle.ipe_admin.specs.Agreement.{Agrees, slot_in_force}
use Rattle.ipe_admin.specs.Changes.{IsBeginning, IsImageFor, IsLetGo, IsPlaced, slot_left, slots_after}
use Rattle.ipe_admin.specs.Outcomes.{ArePlacing, BeginsAt, HasGoneOn, begun, event_in}
use Rattle.ipe_admin.proofs.Histories.{Calm, calm, quiet}
use Rattle.ipe_admin.proofs.InForce.{begins, holds_in_force, still, test_of}
use Rattle.ipe_admin.proofs.Planned.{Fits}
use Rattle.ipe_admin.proofs.Seats.{Brings, Seats, followed, let_go_seats, newly_seated, placed_seats, seats_still}

-- a step that switches nothing, with the administrator's own events that it adds
pub record Quietly (a b : GateAdmin) (own : List Event) : Type 0 where
  pub gate : admin_gate b ≡ admin_gate a
  pub passes : passes_made b ≡ passes_made a
  pub later : GoesOnFrom (admin_seen b) (admin_seen a)
  pub epoch : epoch_of (admin_seen b) ≡ epoch_of (admin_seen a)
  pub active : active_slot (admin_seen b) ≡ active_slot (admin_seen a)
  pub calm : Calm (admin_seen b) (admin_seen a)
  pub mine_is : admin_mine b ≡ own ++ admin_mine a

-- an image was put into a slot, or none
pub placed_quietly : (a b : GateAdmin) (entry : Option Loaded) (image : Option (List ℕ)) (slot : ℕ) → IsImageFor entry image → IsPlaced image a b slot → (own : List Event) × ArePlacing a entry own × Quietly a b own
placed_quietly a b None None slot image_is placed = (
  [],
  refl,
  subst (λ (g : GateAdmin). Quietly a g []) (sym placed.0) (record {
    gate = refl;
    passes = refl;
    later = ([], refl);
    epoch = refl;
    active = refl;
    calm = record { enforce = refl; success = refl; acts = refl };
    mine_is = refl;
  }),
)
placed_quietly a b None (Some words) slot image_is placed = absurd image_is
placed_quietly a b (Some entry) None slot image_is placed = absurd image_is
placed_quietly a b (Some entry) (Some words) slot image_is placed =
    let p = placed.0 in (
      stores_of slot words (length words) ++ looks_to a.bound slot,
      (slot, ap (λ (ws : List ℕ). stores_of slot ws (length ws) ++ looks_to a.bound slot) image_is.0),
      record {
        gate = p.gate;
        passes = p.passes;
        later = (p.calm.0, p.calm.1);
        epoch = p.epoch;
        active = p.active;
        calm = calm (admin_seen b) (admin_seen a) p.calm;
        mine_is = p.mine_is ∙ sym (append_assoc (stores_of slot words (length words)) (looks_to a.bound slot) (admin_mine a));
      },
    )

-- the slot that it was put into
pub placed_brings : ReadAsThemselves → AreOfPolicies → (a b : GateAdmin) (entry : Option Loaded) (image : Option (List ℕ)) (slot : ℕ) → IsImageFor entry image → IsPlaced image a b slot → Brings b entry slot
placed_brings read policies a b None None slot image_is placed = placed.1
placed_brings read policies a b None (Some words) slot image_is placed = absurd image_is
placed_brings read policies a b (Some entry) None slot image_is placed = absurd image_is
placed_brings read policies a b (Some entry) (Some words) slot image_is placed = newly_seated read policies a b entry slot words placed.1 placed.0 image_is.1

-- a switch to these policies, or none where no epoch begins
pub record Begun (a b : GateAdmin) (before after : Policies) (slot : ℕ) : Type 0 where
  pub gate : admin_gate b ≡ admin_gate a
  pub passes : passes_made b ≡ passes_made a
  pub later : GoesOnFrom (admin_seen b) (admin_seen a)
  pub bound : b.bound ≡ a.bound
  pub regions : (k i : ℕ) → content k i (admin_seen b) ≡ content k i (admin_seen a)
  pub epoch : epoch_of (admin_seen b) ≡ after.epoch
  pub enforce : enforce_of (admin_seen b) ≡ after.enforce
  pub success : success_of (admin_seen b) ≡ after.success
  pub active : active_slot (admin_seen b) ≡ slot
  pub acts : List Act
  pub came : acts_of is_switch (admin_seen b) ≡ acts_of is_switch (admin_seen a) ++ acts
  pub switches : AllZip BeginsAt acts (begun before after)
  pub mine_is : admin_mine b ≡ map event_in acts ++ admin_mine a

begun_none : (before after : Policies) → after.epoch ≡ before.epoch → begun before after ≡ []
begun_none before after same = ap (λ (b : Bool). cond b [] (after ∷ [])) (eq-eqb after.epoch before.epoch same)

begun_one : (before after : Policies) → after.epoch ≡ before.epoch + 1 → begun before after ≡ after ∷ []
begun_one before after next = ap (λ (b : Bool). cond b [] (after ∷ [])) (ne_eqb after.epoch before.epoch (λ e. absurd (omega arith)))

front_same : (e : Event) (xs ys : List Event) → e ∷ xs ≡ e ∷ ys → xs ≡ ys
front_same e xs ys same = cc

pub begun_still : (a : GateAdmin) (before after : Policies) (slot : ℕ) → epoch_of (admin_seen a) ≡ after.epoch → enforce_of (admin_seen a) ≡ after.enforce → success_of (admin_seen a) ≡ after.success → active_slot (admin_seen a) ≡ slot → after.epoch ≡ before.epoch → Begun a a before after slot
begun_still a before after slot epoch enforce success active same = record {
  gate = refl;
  passes = refl;
  later = ([], refl);
  bound = refl;
  regions = λ k i. refl;
  epoch = epoch;
  enforce = enforce;
  success = success;
  active = active;
  acts = [];
  came = sym (append-nil (acts_of is_switch (admin_seen a)));
  switches = subst (AllZip BeginsAt []) (sym (begun_none before after same)) tt;
  mine_is = refl;
}

pub begun_next : (a b : GateAdmin) (before after : Policies) (slot : ℕ) (switch : (old : Old) × IsSwitch slot after.enforce after.success a b old) → epoch_of (admin_seen a) ≡ before.epoch → after.epoch ≡ before.epoch + 1 → Holds slot (admin_seen a) (active_entry after) → Begun a b before after slot
begun_next a b before after slot switch epoch next holds =
    let s = switch.1 in
    let h = s.before in
    let act : Act = record { event = Switch slot after.enforce after.success; before = h } in
    let own : administrator_events h ≡ admin_mine a = front_same (Switch slot after.enforce after.success) (administrator_events h) (admin_mine a) (sym (ap administrator_events s.step.seen_is) ∙ s.step.mine_is) in
    let still = calm h (admin_seen a) (quiet h (admin_seen a) s.step.later own) in
    let regions : (k i : ℕ) → content k i h ≡ content k i (admin_seen a) = λ k i. sym (ap (content k i) s.step.seen_is) ∙ s.regions k i in
    record {
      gate = s.step.gate;
      passes = s.passes;
      later = (Switch slot after.enforce after.success ∷ s.step.later.0, s.step.seen_is ∙ ap (λ (es : List Event). Switch slot after.enforce after.success ∷ es) s.step.later.1);
      bound = s.bound;
      regions = s.regions;
      epoch = s.epoch ∙ ap (λ (n : ℕ). n + 1) epoch ∙ sym next;
      enforce = ap enforce_of s.step.seen_is;
      success = ap success_of s.step.seen_is;
      active = s.active;
      acts = act ∷ [];
      came = ap (acts_of is_switch) s.step.seen_is ∙ ap (λ (acts : List Act). acts ++ act ∷ []) still.acts;
      switches = subst (AllZip BeginsAt (act ∷ [])) (sym (begun_one before after next)) (((holds_at h holds regions, refl, refl)), tt);
      mine_is = s.step.mine_is;
    }
  where
    holds_at : (h : List Event) → Holds slot (admin_seen a) (active_entry after) → ((k i : ℕ) → content k i h ≡ content k i (admin_seen a)) → Holds slot h (active_entry after)
    holds_at h holds same = by (active_entry after) holds
      where
        by : (entry : Option Loaded) → Holds slot (admin_seen a) entry → Holds slot h entry
        by None holds = holds
        by (Some entry) holds = (holds.0, ap image_in (ap words_at (λ j i. same slot i j)) ∙ holds.1)

-- the gate after an image was put into a slot, and the slots that the policies have then
pub record Prepared (g g1 : GateAdmin) (policies : Policies) (slots : List ℕ) (placed : ℕ) (change : Change) : Type 0 where
  pub own : List Event
  pub placing : ArePlacing g (entry_in change) own
  pub quietly : Quietly g g1 own
  pub seats : Seats g1 (made policies change).loaded (slots_after policies slots placed change) (slot_left policies slots placed change)
  pub epoch : epoch_of (admin_seen g1) ≡ policies.epoch

pub prepared : ReadAsThemselves → AreOfPolicies → (g g1 : GateAdmin) (policies : Policies) (slots : List ℕ) (change : Change) (image : Option (List ℕ)) (placed : ℕ) → Agrees g policies slots → Fits policies change → IsImageFor (entry_in change) image → IsPlaced image g g1 placed → Prepared g g1 policies slots placed change
prepared read of g g1 policies slots change image placed agrees fits image_is is =
    let quietly = placed_quietly g g1 (entry_in change) image placed image_is is in
    let seats = placed_seats g g1 policies.loaded slots image placed agrees.seated is in
    let brings = placed_brings read of g g1 (entry_in change) image placed image_is is in
    record {
      own = quietly.0;
      placing = quietly.1;
      quietly = quietly.2;
      seats = followed g1 policies slots placed change seats brings fits;
      epoch = quietly.2.epoch ∙ agrees.epoch;
    }

-- a switch may come
pub has_room : (g g1 : GateAdmin) (policies : Policies) (slots : List ℕ) (placed : ℕ) (change : Change) → Prepared g g1 policies slots placed change → Fits policies change → policies.epoch ≤ 65535 → raises policies change ≡ true → epoch_of (admin_seen g1) < 65535
has_room g g1 policies slots placed change p fits small rises =
    let b = begins policies change fits rises in
    let ne : policies.epoch ≢ 65535 = λ e. true≢false (sym (eq-eqb policies.epoch 65535 e) ∙ b.1) in
    let e = p.epoch in
    omega arith

-- the switch, where one is due
pub has_begun : (g g1 g2 : GateAdmin) (policies : Policies) (slots : List ℕ) (placed : ℕ) (change : Change) → Agrees g policies slots → Fits policies change → Prepared g g1 policies slots placed change
    → IsBeginning (raises policies change) (slot_in_force (made policies change) (slots_after policies slots placed change)) (made policies change).enforce (made policies change).success g1 g2
    → Begun g1 g2 policies (made policies change) (slot_in_force (made policies change) (slots_after policies slots placed change))
has_begun g g1 g2 policies slots placed change agrees fits p is = by (raises policies change) refl is
  where
    after : Policies
    after = made policies change

    next : List ℕ
    next = slots_after policies slots placed change

    by : (b : Bool) → raises policies change ≡ b → IsBeginning b (slot_in_force after next) after.enforce after.success g1 g2 → Begun g1 g2 policies after (slot_in_force after next)
    by true rises is = begun_next g1 g2 policies after (slot_in_force after next) is p.epoch (begins policies change fits rises).0 (holds_in_force g1 after next p.seats.each)
    by false calm is =
        let s = still policies slots placed change agrees.seated.long agrees.in_force fits calm in
        let c = p.quietly.calm in
        subst (λ (gate : GateAdmin). Begun g1 gate policies after (slot_in_force after next)) (sym is)
        (begun_still g1 policies after (slot_in_force after next) (p.epoch ∙ sym s.epoch) (c.enforce ∙ agrees.enforce ∙ sym s.enforce) (c.success ∙ agrees.success ∙ sym s.success) (p.quietly.active ∙ agrees.active ∙ sym s.slot) s.epoch)

pub begun_seats : (g1 g2 : GateAdmin) (policies after : Policies) (next : List ℕ) (left slot : ℕ) → Begun g1 g2 policies after slot → Seats g1 after.loaded next left → Seats g2 after.loaded next left
begun_seats g1 g2 policies after next left slot b s = seats_still g1 g2 after.loaded next left b.bound b.regions s

-- registry and gate agree again
pub agree_again : (g2 g3 : GateAdmin) (policies after : Policies) (next : List ℕ) (left : ℕ) (g1 : GateAdmin) → Begun g1 g2 policies after (slot_in_force after next) → Seats g2 after.loaded next left → IsLetGo left g2 g3 → ActiveIsLoaded after → Agrees g3 after next
agree_again g2 g3 policies after next left g1 b s gone sound = record {
  epoch = ap epoch_of gone.seen_is ∙ b.epoch;
  enforce = ap enforce_of gone.seen_is ∙ b.enforce;
  success = ap success_of gone.seen_is ∙ b.success;
  active = ap active_slot gone.seen_is ∙ b.active;
  in_force = test_of after sound;
  seated = let_go_seats g2 g3 after.loaded next left gone s;
}

-- and the gate's history went on
pub gone_on : (g g1 g2 g3 : GateAdmin) (policies after : Policies) (slots : List ℕ) (placed left slot : ℕ) (change : Change) → Prepared g g1 policies slots placed change → Begun g1 g2 policies after slot → IsLetGo left g2 g3 → HasGoneOn (entry_in change) (begun policies after) g g3
gone_on g g1 g2 g3 policies after slots placed left slot change p b gone = record {
  later = (
    b.later.0 ++ p.quietly.later.0,
    gone.seen_is ∙ b.later.1 ∙ ap (λ (es : List Event). b.later.0 ++ es) p.quietly.later.1 ∙ sym (append_assoc b.later.0 p.quietly.later.0 (admin_seen g)),
  );
  since = record { acts = b.acts; came = ap (acts_of is_switch) gone.seen_is ∙ b.came ∙ ap (λ (acts : List Act). acts ++ b.acts) p.quietly.calm.acts };
  switches = b.switches;
  placing = p.own;
  placed = p.placing;
  mine_is = ap administrator_events gone.seen_is ∙ b.mine_is ∙ ap (λ (es : List Event). map event_in b.acts ++ es) p.quietly.mine_is;
}
