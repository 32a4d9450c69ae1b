-- A change as a whole, over what each call of it says.
use Rattle.std.proofs.Common.{◌≡◌, ◌≢◌, ℕ, ◌<◌, ◌≤◌, Bool, true, List, [], ◌∷◌, length, Option, sym, ap, subst, ◌∙◌, arith}
use Rattle.ipe_image.specs.Law.{AreOfPolicies, ReadAsThemselves}
use Rattle.ipe_machine.specs.Policies.{Policies, Loaded}
use Rattle.ipe_machine.specs.Change.{Change, Loads, entry_in, made, raises}
use Rattle.ipe_machine.specs.Epochs.{ActiveIsLoaded, CommandsStayOrBegin}
use Rattle.ipe_registry.specs.declared.change.Plan.TheVariants.{Ready}
use Rattle.ipe_registry.specs.Change.{IsPlannedOn}
use Rattle.ipe_gate_rule.specs.declared.event.Event.{Event}
use Rattle.ipe_gate_rule.specs.declared.event.Event.TheVariants.{Store, Switch, Claim, Return, Look}
use Rattle.ipe_gate_rule.specs.History.{active_slot, epoch_of}
use Rattle.ipe_gate_rule.specs.Legal.{Legal}
use Rattle.ipe_gate.specs.declared.administrator.GateAdmin.{GateAdmin}
use Rattle.ipe_gate.specs.Seats.{IsBound, admin_gate, admin_seen, passes_made}
use Rattle.ipe_admin.specs.Agreement.{Agrees, IsSeated, slot_in_force}
use Rattle.ipe_admin.specs.Changes.{IsBeginning, IsImageFor, IsLetGo, IsPlaced, slot_left, slots_after}
use Rattle.ipe_admin.specs.Outcomes.{HasGoneOn, begun}
use Rattle.ipe_admin.proofs.InForce.{bound_in_force, off_in_force, sound_of}
use Rattle.ipe_admin.proofs.Lists.{zip_length}
use Rattle.ipe_admin.proofs.Making.{Begun, Prepared, agree_again, begun_seats, gone_on, has_begun, has_room, prepared}
use Rattle.ipe_admin.proofs.Planned.{Fits, planned_fits}
use Rattle.ipe_admin.proofs.Seats.{Seats}

legal_epoch : (h : List Event) → Legal h → epoch_of h ≤ 65535
legal_epoch [] legal = omega arith
legal_epoch (Store s i w ∷ h) legal = legal_epoch h legal.1
legal_epoch (Switch s e u ∷ h) legal = let room = legal.0.1 in omega arith
legal_epoch (Claim p ∷ h) legal = legal_epoch h legal.1
legal_epoch (Return p ∷ h) legal = legal_epoch h legal.1
legal_epoch (Look s ∷ h) legal = legal_epoch h legal.1

-- a load finds room
pub load_room : (g : GateAdmin) (policies : Policies) (slots : List ℕ) (change : Change) → Agrees g policies slots → IsPlannedOn policies (Ready change) → (entry : Loaded) → change ≡ Loads entry → length slots < 32
load_room g policies slots change agrees planned entry is =
    let room : length policies.loaded < 32 = subst (Fits policies) is (planned_fits policies change planned) in
    let long = agrees.seated.long in
    omega arith

-- what is known once an image was put into a slot: the change was planned, and the slots and the policies are those after it
pub record Placed (g g1 : GateAdmin) (policies after : Policies) (slots next : List ℕ) (placed : ℕ) (change : Change) : Type 0 where
  pub agrees : Agrees g policies slots
  pub fits : Fits policies change
  pub before : Prepared g g1 policies slots placed change
  pub after_is : after ≡ made policies change
  pub next_is : next ≡ slots_after policies slots placed change

pub is_placed : ReadAsThemselves → AreOfPolicies → (g g1 : GateAdmin) (policies after : Policies) (slots next : List ℕ) (placed : ℕ) (change : Change) (image : Option (List ℕ)) → Agrees g policies slots → IsPlannedOn policies (Ready change) → IsImageFor (entry_in change) image → IsPlaced image g g1 placed → after ≡ made policies change → next ≡ slots_after policies slots placed change → Placed g g1 policies after slots next placed change
is_placed read of g g1 policies after slots next placed change image agrees planned image_is is after_is next_is =
    let fits = planned_fits policies change planned in
    record {
      agrees = agrees;
      fits = fits;
      before = prepared read of g g1 policies slots change image placed agrees fits image_is is;
      after_is = after_is;
      next_is = next_is;
    }

pub as_many : (g g1 : GateAdmin) (policies after : Policies) (slots next : List ℕ) (placed : ℕ) (change : Change) → Placed g g1 policies after slots next placed change → length next ≡ length after.loaded
as_many g g1 policies after slots next placed change p =
    ap length p.next_is
    ∙ zip_length (IsSeated g1) (made policies change).loaded (slots_after policies slots placed change) p.before.seats.each
    ∙ sym (ap (λ (ps : Policies). length ps.loaded) p.after_is)

pub switch_room : (g g1 : GateAdmin) (policies after : Policies) (slots next : List ℕ) (placed : ℕ) (change : Change) (rises : Bool) → Placed g g1 policies after slots next placed change → rises ≡ raises policies change → rises ≡ true → epoch_of (admin_seen g1) < 65535
switch_room g g1 policies after slots next placed change rises p rises_is is =
    let legal = legal_epoch (admin_seen g) g.sound.legal in
    let same = p.agrees.epoch in
    has_room g g1 policies slots placed change p.before p.fits (omega arith) (sym rises_is ∙ is)

pub switch_bound : (g g1 : GateAdmin) (policies after : Policies) (slots next : List ℕ) (placed : ℕ) (change : Change) (slot : ℕ) → Placed g g1 policies after slots next placed change → slot ≡ slot_in_force after next → 0 < slot → IsBound g1 slot
switch_bound g g1 policies after slots next placed change slot p slot_is some =
    let now : slot ≡ slot_in_force (made policies change) (slots_after policies slots placed change) = slot_is ∙ ap (λ (ps : Policies). slot_in_force ps next) p.after_is ∙ ap (λ (ss : List ℕ). slot_in_force (made policies change) ss) p.next_is in
    subst (IsBound g1) (sym now) (bound_in_force g1 (made policies change) (slots_after policies slots placed change) p.before.seats.each (subst (λ (k : ℕ). 0 < k) now some))

-- the same after the switch, where one was due
pub record Switched (g g1 g2 : GateAdmin) (policies after : Policies) (slots next : List ℕ) (placed left : ℕ) (change : Change) : Type 0 where
  pub placing : Placed g g1 policies after slots next placed change
  pub begun : Begun g1 g2 policies after (slot_in_force after next)
  pub seats : Seats g2 after.loaded next left

begin_is : (b c : Bool) (k l : ℕ) (e f u v : Bool) (g1 g2 : GateAdmin) → b ≡ c → k ≡ l → e ≡ f → u ≡ v → IsBeginning b k e u g1 g2 → IsBeginning c l f v g1 g2
begin_is b c k l e f u v g1 g2 bc kl ef uv is =
    subst (λ (x : Bool). IsBeginning c l f x g1 g2) uv
    (subst (λ (x : Bool). IsBeginning c l x u g1 g2) ef
    (subst (λ (x : ℕ). IsBeginning c x e u g1 g2) kl
    (subst (λ (x : Bool). IsBeginning x k e u g1 g2) bc is)))

pub is_switched : (g g1 g2 : GateAdmin) (policies after : Policies) (slots next : List ℕ) (placed left slot : ℕ) (change : Change) (rises enforce success : Bool) → Placed g g1 policies after slots next placed change → left ≡ slot_left policies slots placed change
    → rises ≡ raises policies change → slot ≡ slot_in_force after next → enforce ≡ after.enforce → success ≡ after.success → IsBeginning rises slot enforce success g1 g2 → Switched g g1 g2 policies after slots next placed left change
is_switched g g1 g2 policies after slots next placed left slot change rises enforce success p left_is rises_is slot_is enforce_is success_is is =
    let to : Policies = made policies change in
    let ss : List ℕ = slots_after policies slots placed change in
    let now : slot ≡ slot_in_force to ss = slot_is ∙ ap (λ (ps : Policies). slot_in_force ps next) p.after_is ∙ ap (λ (xs : List ℕ). slot_in_force to xs) p.next_is in
    let due = begin_is rises (raises policies change) slot (slot_in_force to ss) enforce to.enforce success to.success g1 g2 rises_is now (enforce_is ∙ ap (λ (ps : Policies). ps.enforce) p.after_is) (success_is ∙ ap (λ (ps : Policies). ps.success) p.after_is) is in
    let b = has_begun g g1 g2 policies slots placed change p.agrees p.fits p.before due in
    let s = begun_seats g1 g2 policies to ss (slot_left policies slots placed change) (slot_in_force to ss) b p.before.seats in
    record {
      placing = p;
      begun =
          subst (λ (ps : Policies). Begun g1 g2 policies ps (slot_in_force ps next)) (sym p.after_is)
          (subst (λ (xs : List ℕ). Begun g1 g2 policies to (slot_in_force to xs)) (sym p.next_is) b);
      seats =
          subst (λ (ps : Policies). Seats g2 ps.loaded next left) (sym p.after_is)
          (subst (λ (xs : List ℕ). Seats g2 to.loaded xs left) (sym p.next_is)
          (subst (λ (k : ℕ). Seats g2 to.loaded ss k) (sym left_is) s));
    }

pub left_other : (g g1 g2 : GateAdmin) (policies after : Policies) (slots next : List ℕ) (placed left : ℕ) (change : Change) → Switched g g1 g2 policies after slots next placed left change → 0 < left → left ≢ active_slot (admin_seen g2)
left_other g g1 g2 policies after slots next placed left change s some = λ e. off_in_force left after next some (s.seats.off some) (e ∙ s.begun.active)

-- a name that is active is loaded after what was planned
planned_sound : CommandsStayOrBegin → (policies : Policies) (change : Change) → IsPlannedOn policies (Ready change) → ActiveIsLoaded policies → ActiveIsLoaded (made policies change)
planned_sound law policies change planned sound = subst ActiveIsLoaded planned.2.2 (law planned.0 policies planned.1 sound).1

pub agrees_after : CommandsStayOrBegin → (g g1 g2 g3 : GateAdmin) (policies after : Policies) (slots next : List ℕ) (placed left : ℕ) (change : Change) → IsPlannedOn policies (Ready change) → Switched g g1 g2 policies after slots next placed left change → IsLetGo left g2 g3 → Agrees g3 after next
agrees_after law g g1 g2 g3 policies after slots next placed left change planned s gone =
    let sound = planned_sound law policies change planned (sound_of policies s.placing.agrees.in_force) in
    agree_again g2 g3 policies after next left g1 s.begun s.seats gone (subst ActiveIsLoaded (sym s.placing.after_is) sound)

pub goes_on : (g g1 g2 g3 : GateAdmin) (policies after : Policies) (slots next : List ℕ) (placed left : ℕ) (change : Change) → Switched g g1 g2 policies after slots next placed left change → IsLetGo left g2 g3
    → (admin_gate g3 ≡ admin_gate g) × (passes_made g3 ≡ passes_made g) × HasGoneOn (entry_in change) (begun policies after) g g3
goes_on g g1 g2 g3 policies after slots next placed left change s gone = (
  gone.gate ∙ s.begun.gate ∙ s.placing.before.quietly.gate,
  gone.passes ∙ s.begun.passes ∙ s.placing.before.quietly.passes,
  gone_on g g1 g2 g3 policies after slots placed left (slot_in_force after next) change s.placing.before s.begun gone,
)
