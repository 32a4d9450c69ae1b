-- What the rule says in all.
use Rattle.std.proofs.Common.{◌≡◌, ℕ, sym, ◌∙◌, subst, arith}
use mathlib.Core.Option.{some}
use lib.ListN.{get_elem?}
use Rattle.atomic_table.specs.Table.{State}
use Rattle.ipe_gate_rule.specs.declared.view.Role.TheVariants.{Administrator, OfPass}
use Rattle.ipe_gate_rule.specs.declared.view.View.{View}
use Rattle.ipe_gate_rule.specs.Views.{RoleFits}
use Rattle.ipe_gate_rule.specs.Rule.{Kept, OneHistory}
use Rattle.ipe_gate_rule.proofs.Counts.{claimed_sum, gone_sum}
use Rattle.ipe_gate_rule.proofs.Frees.{out_holders}
use Rattle.ipe_gate_rule.proofs.Steps.{knows_same, knows_out}

pub one_history : (s : State (Unit {0}) View) → Kept s → OneHistory s
one_history s r =
    let h = r.history in
    let number : (by : ℕ) (v : View) (p : ℕ) → get_elem? s.views by ≡ some v → v.role ≡ OfPass p → RoleFits h r.made r.seat by (OfPass p) v.seen v.others = λ by v p at is. subst (λ x. RoleFits h r.made r.seat by x v.seen v.others) is (r.seats by v at).2 in
    let admin : (by : ℕ) (v : View) (m : ℕ) → get_elem? s.views by ≡ some v → v.role ≡ Administrator m → RoleFits h r.made r.seat by (Administrator m) v.seen v.others = λ by v m at is. subst (λ x. RoleFits h r.made r.seat by x v.seen v.others) is (r.seats by v at).2 in
    record {
      history = h;
      passes = r.made;
      legal = r.legal;
      words = r.words;
      below = r.below;
      seen = λ by v at. (r.seats by v at).0;
      passes_own = λ by v p at is. let f = number by v p at is in (f.1, f.2);
      administrator_own = λ by v m at is. let f = admin by v m at is in (f.1, f.2);
      one_seat = λ i j v w p at at' is is'. (number i v p at is).0 ∙ sym (number j w p at' is').0;
      sums = λ k pos. sym (gone_sum k h) ∙ claimed_sum r.made k h pos r.legal r.below;
      drained = λ by v m k at is pos ne none.
          let f = admin by v m at is in
          let l = (r.seats by v at).0 in
          let less = knows_out k h v.seen l f.2 ne in
          let same = out_holders r.made k h pos r.legal r.below in
          ((λ z. ne (z ∙ (knows_same h v.seen l f.2).slot)), omega arith);
    }
