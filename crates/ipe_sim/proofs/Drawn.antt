-- What one draw after another comes to.
use Rattle.std.proofs.Common.{◌≡◌, ℕ, suc, ◌+◌, ◌*◌, ◌/◌, ◌%◌, List, [], ◌∷◌, ◌++◌, refl, sym, ap, ◌∙◌, arith}
use Rattle.std.proofs.lemmas.List.{append_assoc}
use Rattle.ipe_sim.specs.Draws.{draw_below, next, state_after, upper}
use Rattle.ipe_sim.specs.Roll.{command, command_at, draws_before, each, hook, hook_at, phase_line}
use Rattle.ipe_sim.proofs.Each.{each-more}

state-next : (seed count more : ℕ) → more ≡ suc count → next (state_after seed count) ≡ state_after seed more
unfolding state_after
state-next seed count more e = ap (λ (n : ℕ). state_after seed n) (sym e)

-- the next item by its number
pub each-next : {A : Type 0} (count : ℕ) (item : ℕ → A) (items all : List A) (last : A) → items ≡ each count item
    → last ≡ item count → all ≡ items ++ last ∷ [] → all ≡ each (count + 1) item
each-next {A = A} count item items all last so_far is more =
    let next : suc count ≡ count + 1 = omega arith in
    more ∙ ap (λ (xs : List A). xs ++ last ∷ []) so_far ∙ ap (λ (x : A). each count item ++ x ∷ []) is
    ∙ sym (each-more count item) ∙ ap (λ (n : ℕ). each n item) next

-- ---- a command

pub command-drawn : (seed p n line state : ℕ) → line ≡ phase_line p + 1 + n
    → state ≡ state_after seed (draws_before p + 2 * n)
    → command line (upper (next state) % 6) (upper (next (next state)) % 16) ≡ command_at seed p n
command-drawn seed p n line state place before =
    let one : next state ≡ state_after seed (draws_before p + 2 * n + 1) =
    ap next before ∙ state-next seed (draws_before p + 2 * n) (draws_before p + 2 * n + 1) (omega arith) in
    let two : next (next state) ≡ state_after seed (draws_before p + 2 * n + 1 + 1) =
    ap next one ∙ state-next seed (draws_before p + 2 * n + 1) (draws_before p + 2 * n + 1 + 1) (omega arith) in
    ap (λ (l : ℕ). command l (upper (next state) % 6) (upper (next (next state)) % 16)) place
    ∙ ap (λ (s : ℕ). command (phase_line p + 1 + n) (upper s % 6) (upper (next (next state)) % 16)) one
    ∙ ap (λ (s : ℕ). command (phase_line p + 1 + n) (draw_below seed (draws_before p + 2 * n) 6) (upper s % 16)) two

pub command-state : (seed p n state : ℕ) → state ≡ state_after seed (draws_before p + 2 * n)
    → next (next state) ≡ state_after seed (draws_before p + 2 * (n + 1))
command-state seed p n state before =
    ap (λ (s : ℕ). next (next s)) before
    ∙ ap next (state-next seed (draws_before p + 2 * n) (draws_before p + 2 * n + 1) (omega arith))
    ∙ state-next seed (draws_before p + 2 * n + 1) (draws_before p + 2 * (n + 1)) (omega arith)

-- ---- a hook

pub hook-drawn : (seed p n line worker state : ℕ) → line ≡ phase_line p + 31 + n → worker ≡ n / 1000 + 1
    → state ≡ state_after seed (draws_before p + 60 + 3 * n)
    → hook line worker (upper (next state) % 5) (upper (next (next state)) % 8) (upper (next (next (next state))) % 6)
    ≡ hook_at seed p n
hook-drawn seed p n line worker state place who before =
    let one : next state ≡ state_after seed (draws_before p + 60 + 3 * n + 1) =
    ap next before ∙ state-next seed (draws_before p + 60 + 3 * n) (draws_before p + 60 + 3 * n + 1) (omega arith) in
    let two : next (next state) ≡ state_after seed (draws_before p + 61 + 3 * n + 1) =
    ap next one ∙ state-next seed (draws_before p + 60 + 3 * n + 1) (draws_before p + 61 + 3 * n + 1) (omega arith) in
    let three : next (next (next state)) ≡ state_after seed (draws_before p + 62 + 3 * n + 1) =
    ap next two ∙ state-next seed (draws_before p + 61 + 3 * n + 1) (draws_before p + 62 + 3 * n + 1) (omega arith) in
    ap (λ (l : ℕ). hook l worker (upper (next state) % 5) (upper (next (next state)) % 8)
    (upper (next (next (next state))) % 6)) place
    ∙ ap (λ (w : ℕ). hook (phase_line p + 31 + n) w (upper (next state) % 5) (upper (next (next state)) % 8)
    (upper (next (next (next state))) % 6)) who
    ∙ ap (λ (s : ℕ). hook (phase_line p + 31 + n) (n / 1000 + 1) (upper s % 5) (upper (next (next state)) % 8)
    (upper (next (next (next state))) % 6)) one
    ∙ ap (λ (s : ℕ). hook (phase_line p + 31 + n) (n / 1000 + 1) (draw_below seed (draws_before p + 60 + 3 * n) 5)
    (upper s % 8) (upper (next (next (next state))) % 6)) two
    ∙ ap (λ (s : ℕ). hook (phase_line p + 31 + n) (n / 1000 + 1) (draw_below seed (draws_before p + 60 + 3 * n) 5)
    (draw_below seed (draws_before p + 61 + 3 * n) 8) (upper s % 6)) three

pub hook-state : (seed p n state : ℕ) → state ≡ state_after seed (draws_before p + 60 + 3 * n)
    → next (next (next state)) ≡ state_after seed (draws_before p + 60 + 3 * (n + 1))
hook-state seed p n state before =
    ap (λ (s : ℕ). next (next (next s))) before
    ∙ ap (λ (s : ℕ). next (next s))
    (state-next seed (draws_before p + 60 + 3 * n) (draws_before p + 60 + 3 * n + 1) (omega arith))
    ∙ ap next (state-next seed (draws_before p + 60 + 3 * n + 1) (draws_before p + 60 + 3 * n + 2) (omega arith))
    ∙ state-next seed (draws_before p + 60 + 3 * n + 2) (draws_before p + 60 + 3 * (n + 1)) (omega arith)

-- ---- lists and states of loops

-- the same behind others
pub each-onto : {A : Type 0} (count : ℕ) (item : ℕ → A) (front items all : List A) (last : A)
    → items ≡ front ++ each count item → last ≡ item count → all ≡ items ++ last ∷ [] → all ≡ front ++ each (count + 1) item
each-onto {A = A} count item front items all last so_far is more =
    more ∙ ap (λ (xs : List A). xs ++ last ∷ []) so_far ∙ append_assoc front (each count item) (last ∷ [])
    ∙ ap (λ (xs : List A). front ++ xs)
    (each-next count item (each count item) (each count item ++ last ∷ []) last refl is refl)

-- before the first draw
pub state-first : (seed : ℕ) → seed ≡ state_after seed 0
unfolding state_after
state-first seed = refl

-- after as many draws, counted otherwise
pub state-same : (seed state a b : ℕ) → a ≡ b → state ≡ state_after seed a → state ≡ state_after seed b
state-same seed state a b e is = is ∙ ap (λ (n : ℕ). state_after seed n) e
