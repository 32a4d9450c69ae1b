-- The words of the table after each kind of step.
use Rattle.std.proofs.Common.{◌≡◌, ℕ, ◌+◌, ◌%◌, ◌^◌, ◌<◌, ◌==◌, ◌&&◌, Bool, true, false, List, ◌∷◌, length, set, get_or, refl, sym, ap, ◌∙◌, subst, arith, ne_eqb, eq-eqb, length-set, get_or-set_same, get_or-set_other, true≢false}
use mathlib.Core.Logic.{dite}
use native.Mathlib.Decide.{ℕ_discrete}
use Rattle.ipe_gate_rule.specs.declared.event.Event.{Event}
use Rattle.ipe_gate_rule.specs.declared.event.Event.TheVariants.{Store, Switch, Claim, Return, Look}
use Rattle.ipe_gate_rule.specs.History.{active_slot, epoch_of, enforce_of, success_of, count_of, held_by, returned, content}
use Rattle.ipe_gate_rule.specs.Active.{packed_word, active_word, FitsActive}
use Rattle.ipe_gate_rule.specs.Words.{WordsFit, region_place, table_words}
use Rattle.ipe_gate_rule.proofs.Words.{word_added}
use Rattle.ipe_gate_rule.proofs.Counts.{cond_yes, cond_no}

pub claim_words : (ws : List ℕ) (h : List Event) (p : ℕ) → WordsFit ws h → FitsActive h → FitsActive (Claim p ∷ h) → WordsFit (set ws 0 ((get_or ws 0 0 + 1) % 2 ^ 64)) (Claim p ∷ h)
claim_words ws h p r now then =
    let n = (get_or ws 0 0 + 1) % 2 ^ 64 in
    let word : n ≡ active_word (Claim p ∷ h) = ap (λ k. (k + 1) % 2 ^ 64) r.active ∙ word_added (count_of h) (epoch_of h) (active_slot h) (enforce_of h) (success_of h) then.count now.epoch now.slot in
    record {
      wide = length-set ws 0 n ∙ r.wide;
      active = get_or-set_same ws 0 n 0 (let wide = r.wide in omega arith) ∙ word;
      returns = λ k pos lt. get_or-set_other ws 0 k n 0 (omega arith) ∙ r.returns k pos lt;
      regions = λ k i pos lt small. get_or-set_other ws 0 (region_place k i) n 0 (omega arith) ∙ r.regions k i pos lt small;
    }

pub switch_words : (ws : List ℕ) (h : List Event) (new s : ℕ) (x y : Bool) → WordsFit ws h → new ≡ packed_word 0 (epoch_of h + 1) s x y → WordsFit (set ws 0 new) (Switch s x y ∷ h)
switch_words ws h new s x y r word = record {
  wide = length-set ws 0 new ∙ r.wide;
  active = get_or-set_same ws 0 new 0 (let wide = r.wide in omega arith) ∙ word;
  returns = λ k pos lt. get_or-set_other ws 0 k new 0 (omega arith) ∙ r.returns k pos lt;
  regions = λ k i pos lt small. get_or-set_other ws 0 (region_place k i) new 0 (omega arith) ∙ r.regions k i pos lt small;
}

pub return_words : (ws : List ℕ) (h : List Event) (p k : ℕ) → WordsFit ws h → held_by p h ≡ k → 0 < k → k < 64 → returned k h + 1 < 2 ^ 64 → WordsFit (set ws k ((get_or ws k 0 + 1) % 2 ^ 64)) (Return p ∷ h)
return_words ws h p k r is pos lt bound =
    let n = (get_or ws k 0 + 1) % 2 ^ 64 in
    let was = r.returns k pos lt in
    let more : returned k (Return p ∷ h) ≡ returned k h + 1 = cond_yes (k == held_by p h) (returned k h + 1) (returned k h) (eq-eqb k (held_by p h) (sym is)) in
    let word : n ≡ returned k (Return p ∷ h) = omega arith in
    record {
      wide = length-set ws k n ∙ r.wide;
      active = get_or-set_other ws k 0 n 0 (omega arith) ∙ r.active;
      returns = λ j pos' lt'. dite (ℕ_discrete j k)
          (λ e. subst (λ x. get_or (set ws k n) x 0 ≡ returned x (Return p ∷ h)) (sym e) (get_or-set_same ws k n 0 (let wide = r.wide in omega arith) ∙ word))
          (λ ne. get_or-set_other ws k j n 0 ne ∙ r.returns j pos' lt' ∙ sym (cond_no (j == held_by p h) (returned j h + 1) (returned j h) (ne_eqb j (held_by p h) (λ e. ne (e ∙ is)))));
      regions = λ j i pos' lt' small. get_or-set_other ws k (region_place j i) n 0 (omega arith) ∙ r.regions j i pos' lt' small;
    }

and_yes : (a b : Bool) → a ≡ true → b ≡ true → (a && b) ≡ true
and_yes true b e f = f
and_yes false b e f = e

and_left : (a b : Bool) → a ≡ false → (a && b) ≡ false
and_left true b e = absurd (true≢false e)
and_left false b e = refl

and_right : (a b : Bool) → b ≡ false → (a && b) ≡ false
and_right true b e = e
and_right false b e = refl

pub store_words : (ws : List ℕ) (h : List Event) (s i w : ℕ) → WordsFit ws h → 0 < s → s < 64 → i < 4096 → WordsFit (set ws (region_place s i) w) (Store s i w ∷ h)
store_words ws h s i w r pos lt small =
    let at = region_place s i in
    record {
      wide = length-set ws at w ∙ r.wide;
      active = get_or-set_other ws at 0 w 0 (omega arith) ∙ r.active;
      returns = λ k pos' lt'. get_or-set_other ws at k w 0 (omega arith) ∙ r.returns k pos' lt';
      regions = λ k j pos' lt' small'. dite (ℕ_discrete k s)
          (λ e. dite (ℕ_discrete j i)
          (λ f. subst (λ (x : ℕ × ℕ). get_or (set ws at w) (region_place x.0 x.1) 0 ≡ content x.0 x.1 (Store s i w ∷ h)) (λ z. (sym e z, sym f z))
          (get_or-set_same ws at w 0 (let wide = r.wide in omega arith) ∙ sym (cond_yes ((s == s) && (i == i)) w (content s i h) (and_yes (s == s) (i == i) (eq-eqb s s refl) (eq-eqb i i refl)))))
          (λ g. get_or-set_other ws at (region_place k j) w 0 (λ z. g (omega arith)) ∙ r.regions k j pos' lt' small' ∙ sym (cond_no ((k == s) && (j == i)) w (content k j h) (and_right (k == s) (j == i) (ne_eqb j i g)))))
          (λ g. get_or-set_other ws at (region_place k j) w 0 (λ z. g (omega arith)) ∙ r.regions k j pos' lt' small' ∙ sym (cond_no ((k == s) && (j == i)) w (content k j h) (and_left (k == s) (j == i) (ne_eqb k s g))));
    }

-- a load leaves each word
pub get_or-set_again : (ws : List ℕ) (i k : ℕ) → i < length ws → get_or (set ws i (get_or ws i 0)) k 0 ≡ get_or ws k 0
get_or-set_again ws i k lt = dite (ℕ_discrete k i)
    (λ e. subst (λ x. get_or (set ws i (get_or ws i 0)) x 0 ≡ get_or ws x 0) (sym e) (get_or-set_same ws i (get_or ws i 0) 0 lt))
    (λ ne. get_or-set_other ws i k (get_or ws i 0) 0 ne)

pub load_words : (ws : List ℕ) (h : List Event) (i : ℕ) → i < table_words → WordsFit ws h → WordsFit (set ws i (get_or ws i 0)) h
load_words ws h i lt r =
    let within : i < length ws = (let wide = r.wide in omega arith) in
    record {
      wide = length-set ws i (get_or ws i 0) ∙ r.wide;
      active = get_or-set_again ws i 0 within ∙ r.active;
      returns = λ k pos lt'. get_or-set_again ws i k within ∙ r.returns k pos lt';
      regions = λ k j pos lt' small. get_or-set_again ws i (region_place k j) within ∙ r.regions k j pos lt' small;
    }

pub look_words : (ws : List ℕ) (h : List Event) (k : ℕ) → WordsFit ws h → WordsFit ws (Look k ∷ h)
look_words ws h k r = record { wide = r.wide; active = r.active; returns = r.returns; regions = r.regions }
