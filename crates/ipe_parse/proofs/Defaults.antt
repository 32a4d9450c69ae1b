-- Which statements leave no operation without a default, and repeat none.
use Rattle.std.proofs.Common.{◌≡◌, ◌+◌, ◌≤◌, Bool, true, false, not, cond, List, ◌∷◌, ◌++◌, length, find, Option, None, refl, ap, ◌∙◌, arith, length-append, le-ltb, lt-ltb, ltb-false, eq-eqb}
use Rattle.std.proofs.lemmas.List.Elements.{filter_map-append}
use Rattle.ipe_policy.specs.declared.op.Op.{Op}
use Rattle.ipe_policy.specs.declared.op.Op.TheVariants.{Execute, Firmware, Kmodule, KexecImage, KexecInitramfs, Policy, X509Cert}
use Rattle.ipe_policy.specs.declared.op.Action.{Action}
use Rattle.ipe_policy.specs.declared.statement.Statement.{Statement}
use Rattle.ipe_policy.specs.declared.statement.Statement.TheVariants.{Rule, OpDefault, GlobalDefault}
use Rattle.ipe_policy.specs.Statement.{op_default_of, global_default_of, op_number, operations}
use Rattle.ipe_policy.specs.Policy.{op_defaults, global_defaults}
use Rattle.ipe_parse.specs.Defaults.{IsOnce, first_missing, has_global_default, has_op_default, repeats_default}

-- the defaults of an operation in two lists of statements
pub op-append : (op : Op) (items more : List Statement)
    → length (op_defaults op (items ++ more)) ≡ length (op_defaults op items) + length (op_defaults op more)
op-append op items more =
    ap length (filter_map-append (op_default_of op) items more) ∙ length-append (op_defaults op items) (op_defaults op more)

-- the global defaults in two lists of statements
pub global-append : (items more : List Statement)
    → length (global_defaults (items ++ more)) ≡ length (global_defaults items) + length (global_defaults more)
global-append items more =
    ap length (filter_map-append global_default_of items more) ∙ length-append (global_defaults items) (global_defaults more)

-- a default of an operation is one more of them
one-more : (op : Op) (action : Action) (items : List Statement) → length (op_defaults op (OpDefault op action ∷ items)) ≡ length (op_defaults op items) + 1
one-more op action items = rw (eq-eqb (op_number op) (op_number op) refl) (omega arith)

-- where no default is given twice, no statement repeats one that stands before it
pub repeats-none : (before items : List Statement) (statement : Statement) → IsOnce (before ++ statement ∷ items) → repeats_default before statement ≡ false
repeats-none before items (Rule op properties action) once = refl
repeats-none before items (OpDefault op action) once =
    le-ltb 0 (length (op_defaults op before))
    (omega (arith, once.op_once op, op-append op before (OpDefault op action ∷ items), one-more op action items))
repeats-none before items (GlobalDefault action) once =
    le-ltb 0 (length (global_defaults before))
    (omega (arith, once.global_once, global-append before (GlobalDefault action ∷ items)))

-- nothing is missing where a global default is given or no operation lacks one
missing-by : (b : Bool) (o : Option Op) → (b ≡ false → o ≡ None) → cond b None o ≡ None
missing-by true o h = refl
missing-by false o h = h refl

-- no operation is found without a default where each has one
none-found : (items : List Statement) → ((op : Op) → has_op_default op items ≡ true) → find (λ (op : Op). not (has_op_default op items)) operations ≡ None
none-found items given =
    rw (
      given Execute,
      given Firmware,
      given Kmodule,
      given KexecImage,
      given KexecInitramfs,
      given Policy,
      given X509Cert,
    )

-- where each operation has a default, none is missing
pub missing-none : (items : List Statement) → ((op : Op) → 1 ≤ length (op_defaults op items) + length (global_defaults items)) → first_missing items ≡ None
missing-none items each =
    missing-by (has_global_default items) _ λ none.
    none-found items λ op. lt-ltb 0 (length (op_defaults op items)) (omega (arith, each op, ltb-false 0 (length (global_defaults items)) none))
