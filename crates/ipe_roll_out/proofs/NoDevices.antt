-- The roll-out of a seed names no device.
use Rattle.std.proofs.Common.{◌≡◌, ℕ, List, [], ◌∷◌, map, refl, sym, subst, ◌∙◌}
use Rattle.std.specs.Prelude.{All, IsSomeAnd}
use Rattle.std.specs.List.{flat_map, range_with_len}
use Rattle.std.proofs.lemmas.List.Concat.{flat_map-cons}
use Rattle.std.proofs.lemmas.List.Elements.{All-nil}
use Rattle.blk_device.specs.Contents.{content}
use Rattle.ipe_objects.specs.Devices.{AreImages, HasRoom, named_by_file, named_devices, need_of}
use Rattle.ipe_sim.specs.Roll.{each, file, roll}

-- items of which each has none have none
no_items : {A B : Type 0} (of : A → List B) (item : ℕ → A) → ((i : ℕ) → of (item i) ≡ []) → (numbers : List ℕ) → flat_map of (map item numbers) ≡ []
no_items of item none [] = refl
no_items of item none (i ∷ numbers) = flat_map-cons of (item i) (map item numbers) ∙ rw (none i) (no_items of item none numbers)

no_names : flat_map named_by_file (each 8 file) ≡ []
unfolding each
no_names = no_items named_by_file file (λ j. refl) (range_with_len 0 8)

names_nothing : (seed : ℕ) → named_devices (roll seed) ≡ []
names_nothing seed = rw no_names refl

pub no_images : (seed : ℕ) → AreImages (roll seed) []
no_images seed =
    let there : List ℕ → Type 0 = λ name. IsSomeAnd (content name []) (HasRoom (need_of (roll seed) name)) in
    subst (All there) (sym (names_nothing seed)) (All-nil there)
