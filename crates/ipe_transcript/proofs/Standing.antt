-- What a sort by key, actor and line gives.
use Rattle.std.proofs.Common.{◌≡◌, ℕ, suc, ◌<◌, ◌≤◌, ◌⊎◌, inl, inr, false, List, [], ◌∷◌, length, get_or, map, Option, Some, None, refl, sym, ap, ◌∙◌, arith}
use Rattle.std.specs.Ordering.{nat_cmp, ordering_then, is_lt}
use Rattle.std.specs.declared.cmp.Ordering.{Ordering}
use Rattle.std.specs.declared.cmp.Ordering.TheVariants.{Less, Equal}
use Rattle.std.specs.Cmp.{IsTotalOrder, nat_cmp_is, nat_cmp_total, on_total, then_total}
use Rattle.std.specs.Cmp.Lexicographic.{options_total}
use Rattle.std.specs.List.Sorted.{IsSortedByKey}
use Rattle.std.proofs.lemmas.Bool.{true≢false}
use Rattle.std.proofs.lemmas.List.Sorted.{ranks_by, sorted_far}
use Rattle.std.specs.Option.{option_map, option_cmp}
use Rattle.std.specs.List.{AllByRecursion}
use Rattle.ipe_transcript.specs.declared.filing.Filed.{Filed}
use Rattle.ipe_transcript.specs.declared.key.Key.{Key as KeptKey}
use Rattle.ipe_transcript.specs.declared.key.Rank.{Rank}
use Rattle.ipe_transcript.specs.declared.key.Rank.TheVariants as rank
use Rattle.ipe_transcript.specs.contracts.key.RankOrd.TheImpl as rank_ord
use Rattle.ipe_transcript.specs.contracts.key.KeyOrd.TheImpl as key_ord
use Rattle.ipe_transcript.specs.contracts.key.KeyOrd.TheImpl.Laws as key_law
use Rattle.ipe_transcript.specs.declared.transcript.Entry.{Entry}
use Rattle.ipe_transcript.specs.Keys.{Key, IsBefore}
use Rattle.ipe_transcript.specs.Entries.{actor_of, line_of}
use Rattle.ipe_transcript.specs.Filing.{IsKeyBefore, IsFiledBefore, StandInOrder}
use Rattle.ipe_transcript.specs.Order.{ranked_key, key_shown, filed_shown}

-- from places to a list
pub stand_shown : {Q P : Type 0} (R : P → P → Type 0) (shown : Q → P) (xs : List Q) → ((i j : ℕ) (d : Q) → i < j → j < length xs → R (shown (get_or xs j d)) (shown (get_or xs i d)) → ⊥) → StandInOrder R (map shown xs)
stand_shown R shown [] each = tt
stand_shown {Q} {P} R shown (x ∷ xs) each = (after xs (λ j d in_j. each 0 (suc j) d (omega arith) (omega (arith, in_j))), stand_shown R shown xs (λ i j d low in_j. each (suc i) (suc j) d (omega (arith, low)) (omega (arith, in_j))))
  where
    after : (ys : List Q) → ((j : ℕ) (d : Q) → j < length ys → R (shown (get_or ys j d)) (shown x) → ⊥) → AllByRecursion (λ (p : P). R p (shown x) → ⊥) (map shown ys)
    after [] none = tt
    after (y ∷ ys) none = (none 0 y (omega arith), after ys (λ j d in_j. none (suc j) d (omega (arith, in_j))))

number_less : (a b : ℕ) → a < b → nat_cmp a b ≡ Less
number_less a b low = sym (nat_cmp_is a b Less low)

number_same : (a b : ℕ) → a ≡ b → nat_cmp a b ≡ Equal
number_same a b same = sym (nat_cmp_is a b Equal same)

-- an order of the keys that the program keeps, which agrees with that of the keys that they are
module _ (cmp : KeptKey → KeptKey → Ordering) (less : (a b : KeptKey) → IsBefore (key_shown a) (key_shown b) → cmp a b ≡ Less) (same : (a b : KeptKey) → key_shown a ≡ key_shown b → cmp a b ≡ Equal) where
  option_less : (a b : Option KeptKey) → IsKeyBefore (option_map key_shown a) (option_map key_shown b) → option_cmp cmp a b ≡ Less
  option_less None None before = absurd before
  option_less None (Some b) before = refl
  option_less (Some a) None before = absurd before
  option_less (Some a) (Some b) before = less a b before

  option_same : (a b : Option KeptKey) → option_map key_shown a ≡ option_map key_shown b → option_cmp cmp a b ≡ Equal
  option_same None None is = refl
  option_same None (Some b) is = cc
  option_same (Some a) None is = cc
  option_same (Some a) (Some b) is = same a b cc

  abbrev pub filed_cmp : Filed → Filed → Ordering
  filed_cmp x y = ordering_then (ordering_then (option_cmp cmp x.key y.key) (nat_cmp (actor_of x.entry) (actor_of y.entry))) (nat_cmp (line_of x.entry) (line_of y.entry))

  pub filed_less : (x y : Filed) → IsFiledBefore actor_of line_of (filed_shown x) (filed_shown y) → filed_cmp x y ≡ Less
  filed_less x y (inl before) = ap (λ (o : Ordering). ordering_then (ordering_then o (nat_cmp (actor_of x.entry) (actor_of y.entry))) (nat_cmp (line_of x.entry) (line_of y.entry))) (option_less x.key y.key before)
  filed_less x y (inr (is, low)) =
      ap (λ (o : Ordering). ordering_then (ordering_then o (nat_cmp (actor_of x.entry) (actor_of y.entry))) (nat_cmp (line_of x.entry) (line_of y.entry))) (option_same x.key y.key is) ∙ by low
    where
      by : (actor_of x.entry < actor_of y.entry) ⊎ ((actor_of x.entry ≡ actor_of y.entry) × (line_of x.entry < line_of y.entry)) → ordering_then (nat_cmp (actor_of x.entry) (actor_of y.entry)) (nat_cmp (line_of x.entry) (line_of y.entry)) ≡ Less
      by (inl low) = ap (λ (o : Ordering). ordering_then o (nat_cmp (line_of x.entry) (line_of y.entry))) (number_less (actor_of x.entry) (actor_of y.entry) low)
      by (inr low) = ap (λ (o : Ordering). ordering_then o (nat_cmp (line_of x.entry) (line_of y.entry))) (number_same (actor_of x.entry) (actor_of y.entry) low.0) ∙ number_less (line_of x.entry) (line_of y.entry) low.1

-- the order of ranks that the program has
abbrev rank_cmp : Rank → Rank → Ordering
rank_cmp = rank_ord.ghosts.cmp

abbrev pub key_cmp : KeptKey → KeptKey → Ordering
key_cmp = key_ord.ghosts.cmp

-- an order by rank, then by number
absent : (r s m n : ℕ) → s ≤ r → (r ≡ s → m < n → ⊥) → (r < s) ⊎ ((r ≡ s) × (m < n)) → ⊥
absent r s m n low none (inl before) = omega (arith, low, before)
absent r s m n low none (inr before) = none before.0 before.1

present : (r m n : ℕ) → (r < r) ⊎ ((r ≡ r) × (m < n)) → m < n
present r m n (inl before) = absurd (omega (arith, before))
present r m n (inr before) = before.1

abbrev RankLess : ℕ → ℕ → Rank → Rank → Type 0
RankLess e f r s = (e < f) ⊎ ((e ≡ f) × (rank_cmp r s ≡ Less))

rank_less : (e f : ℕ) (r s : Rank) → IsBefore (ranked_key e r) (ranked_key f s) → RankLess e f r s
rank_less e f rank.Opening rank.Opening (inl low) = inl low
rank_less e f rank.Opening rank.Opening (inr is) = absurd (absent 0 0 0 0 (omega arith) (λ same low. omega (arith, low)) is.1)
rank_less e f rank.Opening (rank.Command n) (inl low) = inl low
rank_less e f rank.Opening (rank.Command n) (inr is) = inr (is.0, refl)
rank_less e f rank.Opening (rank.Claim n) (inl low) = inl low
rank_less e f rank.Opening (rank.Claim n) (inr is) = inr (is.0, refl)
rank_less e f (rank.Command m) rank.Opening (inl low) = inl low
rank_less e f (rank.Command m) rank.Opening (inr is) = absurd (absent 1 0 m 0 (omega arith) (λ same low. omega (arith, same)) is.1)
rank_less e f (rank.Command m) (rank.Command n) (inl low) = inl low
rank_less e f (rank.Command m) (rank.Command n) (inr is) = inr (is.0, number_less m n (present 1 m n is.1))
rank_less e f (rank.Command m) (rank.Claim n) (inl low) = inl low
rank_less e f (rank.Command m) (rank.Claim n) (inr is) = inr (is.0, refl)
rank_less e f (rank.Claim m) rank.Opening (inl low) = inl low
rank_less e f (rank.Claim m) rank.Opening (inr is) = absurd (absent 2 0 m 0 (omega arith) (λ same low. omega (arith, same)) is.1)
rank_less e f (rank.Claim m) (rank.Command n) (inl low) = inl low
rank_less e f (rank.Claim m) (rank.Command n) (inr is) = absurd (absent 2 1 m n (omega arith) (λ same low. omega (arith, same)) is.1)
rank_less e f (rank.Claim m) (rank.Claim n) (inl low) = inl low
rank_less e f (rank.Claim m) (rank.Claim n) (inr is) = inr (is.0, number_less m n (present 2 m n is.1))

abbrev RankSame : ℕ → ℕ → Rank → Rank → Type 0
RankSame e f r s = (e ≡ f) × (rank_cmp r s ≡ Equal)

rank_same : (e f : ℕ) (r s : Rank) → ranked_key e r ≡ ranked_key f s → RankSame e f r s
rank_same e f rank.Opening rank.Opening is = (ap (λ (k : Key). k.epoch) is, refl)
rank_same e f rank.Opening (rank.Command n) is = let r : 0 ≡ 1 = ap (λ (k : Key). k.rank) is in absurd (omega (arith, r))
rank_same e f rank.Opening (rank.Claim n) is = let r : 0 ≡ 2 = ap (λ (k : Key). k.rank) is in absurd (omega (arith, r))
rank_same e f (rank.Command m) rank.Opening is = let r : 1 ≡ 0 = ap (λ (k : Key). k.rank) is in absurd (omega (arith, r))
rank_same e f (rank.Command m) (rank.Command n) is = (ap (λ (k : Key). k.epoch) is, number_same m n (ap (λ (k : Key). k.within) is))
rank_same e f (rank.Command m) (rank.Claim n) is = let r : 1 ≡ 2 = ap (λ (k : Key). k.rank) is in absurd (omega (arith, r))
rank_same e f (rank.Claim m) rank.Opening is = let r : 2 ≡ 0 = ap (λ (k : Key). k.rank) is in absurd (omega (arith, r))
rank_same e f (rank.Claim m) (rank.Command n) is = let r : 2 ≡ 1 = ap (λ (k : Key). k.rank) is in absurd (omega (arith, r))
rank_same e f (rank.Claim m) (rank.Claim n) is = (ap (λ (k : Key). k.epoch) is, number_same m n (ap (λ (k : Key). k.within) is))

key_less : (a b : KeptKey) → IsBefore (key_shown a) (key_shown b) → key_cmp a b ≡ Less
key_less a b before = by (rank_less a.epoch b.epoch a.rank b.rank before)
  where
    by : RankLess a.epoch b.epoch a.rank b.rank → key_cmp a b ≡ Less
    by (inl low) = ap (λ (o : Ordering). ordering_then o (rank_cmp a.rank b.rank)) (number_less a.epoch b.epoch low)
    by (inr low) = ap (λ (o : Ordering). ordering_then o (rank_cmp a.rank b.rank)) (number_same a.epoch b.epoch low.0) ∙ low.1

key_same : (a b : KeptKey) → key_shown a ≡ key_shown b → key_cmp a b ≡ Equal
key_same a b is =
    let same : RankSame a.epoch b.epoch a.rank b.rank = rank_same a.epoch b.epoch a.rank b.rank is in
    ap (λ (o : Ordering). ordering_then o (rank_cmp a.rank b.rank)) (number_same a.epoch b.epoch same.0) ∙ same.1

-- so what is sorted by them stands in order
abbrev pub place_of : Filed → Option KeptKey × ℕ × ℕ
place_of filed = (filed.key, actor_of filed.entry, line_of filed.entry)

abbrev pub place_cmp : Option KeptKey × ℕ × ℕ → Option KeptKey × ℕ × ℕ → Ordering
place_cmp x y = ordering_then (ordering_then (option_cmp key_cmp x.0 y.0) (nat_cmp x.1 y.1)) (nat_cmp x.2 y.2)

place_total : IsTotalOrder place_cmp
place_total = then_total (then_total (on_total (λ (x : Option KeptKey × ℕ × ℕ). x.0) (options_total key_law.total-law)) (on_total (λ (x : Option KeptKey × ℕ × ℕ). x.1) nat_cmp_total)) (on_total (λ (x : Option KeptKey × ℕ × ℕ). x.2) nat_cmp_total)

pub sorted_stand : (xs : List Filed) → IsSortedByKey place_of place_cmp xs → StandInOrder (IsFiledBefore actor_of line_of) (map filed_shown xs)
sorted_stand xs sorted = stand_shown (IsFiledBefore actor_of line_of) filed_shown xs (λ i j d low in_j before.
    let less : place_cmp (place_of (get_or xs j d)) (place_of (get_or xs i d)) ≡ Less = filed_less key_cmp key_less key_same (get_or xs j d) (get_or xs i d) before in
    let far : is_lt (place_cmp (place_of (get_or xs j d)) (place_of (get_or xs i d))) ≡ false =
    sorted_far (λ (x y : Filed). is_lt (place_cmp (place_of x) (place_of y))) (ranks_by place_total place_of) xs sorted i j d (omega (arith, low)) in_j in
    true≢false (sym (ap is_lt less) ∙ far))

-- the entries of what is filed
pub shown_entries : (xs : List Filed) → map (λ (f : Filed). f.entry) xs ≡ map (λ (x : Option Key × Entry). x.1) (map filed_shown xs)
shown_entries [] = refl
shown_entries (x ∷ xs) = ap (λ (es : List Entry). x.entry ∷ es) (shown_entries xs)
