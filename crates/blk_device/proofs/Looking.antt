-- Looking for a name, item by item.
use Rattle.std.proofs.Common.{◌≡◌, ◌≢◌, ℕ, ◌+◌, ◌<◌, ◌≤◌, List, ◌∷◌, length, drop, get_or, cond, Some, None, ap, sym, ◌∙◌}
use Rattle.std.specs.Prelude.{bytes_eq}
use Rattle.std.specs.Map.{lookup}
use Rattle.std.proofs.lemmas.Bool.{cond-true, cond-false, false_from_ne_true}
use Rattle.std.proofs.lemmas.List.{drop_more, drop_all}
use Rattle.std.proofs.lemmas.Slice.Eq.{bytes_eq-Decides}
use Rattle.blk_device.specs.Contents.{Contents, content}

-- what is left begins with the item at the place
at_place : (name : List ℕ) (items : Contents) (i : ℕ) (item : List ℕ × List ℕ) → i < length items →
    item ≡ get_or items i item →
    content name (drop i items) ≡ cond (bytes_eq name item.0) (Some item.1) (content name (drop (i + 1) items))
unfolding content
at_place name items i item within is =
    ap (λ xs. lookup (bytes_eq name) xs) (drop_more items i item within ∙ ap (λ x. x ∷ drop (i + 1) items) (sym is))

-- it has the name
pub content_found : (name : List ℕ) (items : Contents) (i : ℕ) (item : List ℕ × List ℕ) → i < length items →
    item ≡ get_or items i item →
    item.0 ≡ name → content name (drop i items) ≡ Some item.1
content_found name items i item within is same =
    at_place name items i item within is
    ∙ cond-true (bytes_eq name item.0) (Some item.1) (content name (drop (i + 1) items)) ((bytes_eq-Decides name
    item.0).1 (sym same))

-- it hasn't
pub content_next : (name : List ℕ) (items : Contents) (i : ℕ) (item : List ℕ × List ℕ) → i < length items →
    item ≡ get_or items i item →
    item.0 ≢ name → content name (drop (i + 1) items) ≡ content name (drop i items)
content_next name items i item within is other =
    sym (at_place name items i item within is
    ∙ cond-false (bytes_eq name item.0) (Some item.1) (content name (drop (i + 1) items))
    (false_from_ne_true (bytes_eq name item.0) (λ holds. other (sym ((bytes_eq-Decides name item.0).0 holds)))))

-- no item is left
pub content_none : (name : List ℕ) (items : Contents) (i : ℕ) → length items ≤ i → content name (drop i items) ≡ None
unfolding content
content_none name items i past = ap (λ xs. lookup (bytes_eq name) xs) (drop_all i items past)
