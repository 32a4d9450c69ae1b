-- How the cases of an answer are told one after another.
use Rattle.std.proofs.Common.{◌≡◌, Bool, true, false, cond, Result, Ok, Err, refl, ◌⊎◌, inl, inr}
use Rattle.ipe_machine.specs.declared.answer.Done.{Done}
use Rattle.ipe_machine.specs.declared.answer.Refusal.{Refusal}

-- an answer that is no refusal has passed the test before it
pub passed : {A : Type 0} (test : Bool) (why : Refusal) (rest : Result A Refusal) (x : A) → cond test (Err why) rest ≡ Ok x → (test ≡ false) × (rest ≡ Ok x)
passed true why rest x is = cc
passed false why rest x is = (refl, is)

-- what is done before its time, or goes on
pub either_way : (test : Bool) (early : Done) (rest : Result Done Refusal) (did : Done) → cond test (Ok early) rest ≡ Ok did → (did ≡ early) ⊎ (rest ≡ Ok did)
either_way true early rest did is = inl cc
either_way false early rest did is = inr is
