-- The test of a policy's rules finds the rules.
use Rattle.std.proofs.Common.{◌≡◌, ℕ, ◌<◌, ◌≤◌, ◌&&◌, suc, Bool, true, List, [], ◌∷◌, length, get_or, refl}
use Rattle.std.specs.Prelude.{nat_le}
use Rattle.std.specs.List.{AllByRecursion, list_all}
use Rattle.std.proofs.lemmas.Bool.{and_from, and_parts, le-leb, leb-true}
use Rattle.ipe_policy.specs.declared.op.Op.{Op}
use Rattle.ipe_policy.specs.declared.op.Op.TheVariants.{Execute, Firmware, Kmodule, KexecImage, KexecInitramfs, Policy, X509Cert}
use Rattle.ipe_policy.specs.declared.statement.Statement.{Statement}
use Rattle.ipe_policy.specs.Policy.{IsPolicy, IsStatement, global_defaults, has_one_default, op_defaults}
use Rattle.ipe_policy.specs.Statement.{operations}

-- bytes by index are bytes by cases on the list
pub bytes-each : (bytes : List ℕ) → ((i : ℕ) → get_or bytes i 0 < 256) → AllByRecursion (λ byte. byte < 256) bytes
bytes-each [] below = tt
bytes-each (byte ∷ bytes) below = (below 0, bytes-each bytes (λ i. below (suc i)))

-- a test that holds of all operations holds of each
each-op : (test : Op → Bool) → list_all test operations ≡ true → (op : Op) → test op ≡ true
each-op test all op =
    let a = and_parts (test Execute) _ all in
    let b = and_parts (test Firmware) _ a.1 in
    let c = and_parts (test Kmodule) _ b.1 in
    let d = and_parts (test KexecImage) _ c.1 in
    let e = and_parts (test KexecInitramfs) _ d.1 in
    let f = and_parts (test Policy) _ e.1 in
    let g = and_parts (test X509Cert) _ f.1 in
    at a.0 b.0 c.0 d.0 e.0 f.0 g.0 op
  where
    at : test Execute ≡ true → test Firmware ≡ true → test Kmodule ≡ true → test KexecImage ≡ true
        → test KexecInitramfs ≡ true → test Policy ≡ true → test X509Cert ≡ true → (op : Op) → test op ≡ true
    at a b c d e f g Execute = a
    at a b c d e f g Firmware = b
    at a b c d e f g Kmodule = c
    at a b c d e f g KexecImage = d
    at a b c d e f g KexecInitramfs = e
    at a b c d e f g Policy = f
    at a b c d e f g X509Cert = g

all-ops : (test : Op → Bool) → ((op : Op) → test op ≡ true) → list_all test operations ≡ true
all-ops test each =
    and_from (test Execute) _ (each Execute) (
    and_from (test Firmware) _ (each Firmware) (
    and_from (test Kmodule) _ (each Kmodule) (
    and_from (test KexecImage) _ (each KexecImage) (
    and_from (test KexecInitramfs) _ (each KexecInitramfs) (
    and_from (test Policy) _ (each Policy) (
    and_from (test X509Cert) _ (each X509Cert) refl))))))

-- the tests of a policy's defaults
abbrev pub pass_defaults : List Statement → Bool
pass_defaults items = nat_le (length (global_defaults items)) 1 && list_all (has_one_default items) operations

pub policy-made : (items : List Statement) → length items ≤ 1048576 → pass_defaults items ≡ true
    → AllByRecursion IsStatement items → IsPolicy items
policy-made items few pass statements =
    let both = and_parts (nat_le (length (global_defaults items)) 1) _ pass in
    let each : (op : Op) → has_one_default items op ≡ true = each-op (has_one_default items) both.1 in
    record {
      few = few;
      global_once = leb-true _ 1 both.0;
      op_once = λ op. leb-true _ 1 (and_parts (nat_le (length (op_defaults op items)) 1) _ (each op)).0;
      each_has_one = λ op. leb-true 1 _ (and_parts (nat_le (length (op_defaults op items)) 1) _ (each op)).1;
      statements = statements;
    }

pub policy-passes : (items : List Statement) → IsPolicy items → pass_defaults items ≡ true
policy-passes items h =
    and_from (nat_le (length (global_defaults items)) 1) _ (le-leb _ 1 h.global_once)
    (all-ops (has_one_default items) (λ op.
    and_from (nat_le (length (op_defaults op items)) 1) _ (le-leb _ 1 (h.op_once op)) (le-leb 1 _ (h.each_has_one op))))
