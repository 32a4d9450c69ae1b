use Rattle.std.proofs.Common.{◌≡◌, ◌-◌, true, false, ltb, leb, eqb, get_or, sym, ◌∙◌, arith}
use Rattle.std.specs.Prelude.{not}
use Rattle.std.proofs.lemmas.Bool.{lt-ltb, le-ltb, le-leb, lt-leb, eq-eqb, ne_eqb}
use Rattle.fsv_tree.proofs.Table.{row_version, row_log, row_salt_size, row_reserved, row_size, row_size_rest, row_root, row_behind_root, row_salt, row_last, or_first, or_second, and_first, and_second}
use Rattle.fsv_tree.proofs.rows.breaks_row.Goals.{in_default-via-then-place-lt8, in_default-via-else-place-lt8+else-place-lt16+else-place-lt48+then-place-lt80, in_default-via-else-place-lt8+else-place-lt16+else-place-lt48+else-place-lt80+else-place-lt112}
use Rattle.fsv_tree.proofs.rows.breaks_row.Goals as goal

pub returns-in-0 : goal.returns-in-0
returns-in-0 c =
    rw c.from.ensures (sym (row_version c.args.bytes.now c.args.size c.args.place (omega (arith, c.in-0))))

pub returns-then-byte-lt10 : goal.returns-then-byte-lt10
returns-then-byte-lt10 c =
    or_first (ltb (get_or c.args.bytes.now c.from.result 0) 10) (ltb 12 (get_or c.args.bytes.now c.from.result 0)) (lt-ltb _ 10 c.if-byte-lt10.true) ∙ rw c.from.ensures (sym (row_log c.args.bytes.now c.args.size
    c.args.place (omega (arith, c.in-2.is)) (omega (arith, c.in-2.is))))

pub returns-else-byte-lt10 : goal.returns-else-byte-lt10
returns-else-byte-lt10 c =
    or_second (ltb (get_or c.args.bytes.now c.from.result 0) 10) (ltb 12 (get_or c.args.bytes.now c.from.result 0)) (le-ltb _ 10 c.if-byte-lt10.false) ∙ rw c.from.ensures (sym (row_log c.args.bytes.now c.args.size
    c.args.place (omega (arith, c.in-2.is)) (omega (arith, c.in-2.is))))

pub returns-in-3 : goal.returns-in-3
returns-in-3 c =
    rw c.from.ensures (sym (row_salt_size c.args.bytes.now c.args.size c.args.place (omega (arith, c.in-3.is)) (omega (
      arith,
      c.in-3.is,
    ))))

pub returns-in-8 : goal.returns-in-8
returns-in-8 c =
    rw c.size_said.ensures (sym (row_size c.args.bytes.now c.args.size c.args.place (omega (arith, c.in-8.is)) (omega (
      arith,
      c.in-8.is,
    ))))

pub returns-in-9-to-15 : goal.returns-in-9-to-15
returns-in-9-to-15 c =
    sym (row_size_rest c.args.bytes.now c.args.size c.args.place (omega (arith, c.in-9-to-15)) (omega (
      arith,
      c.in-9-to-15,
    )))

pub returns-then-size-eq0 : goal.returns-then-size-eq0
returns-then-size-eq0 c =
    and_second (eqb c.args.size 0) (not (eqb (get_or c.args.bytes.now c.from.result 0) 0)) (eq-eqb c.args.size 0 c.if-size-eq0.true) ∙ rw c.from.ensures (sym (row_root
    c.args.bytes.now c.args.size c.args.place (omega (arith, c.in-16-to-47)) (omega (arith, c.in-16-to-47))))

pub returns-else-size-eq0 : goal.returns-else-size-eq0
returns-else-size-eq0 c =
    and_first (eqb c.args.size 0) (not (eqb (get_or c.args.bytes.now c.args.place 0) 0)) (ne_eqb c.args.size 0
    c.if-size-eq0.false) ∙ sym (row_root c.args.bytes.now c.args.size c.args.place (omega (arith, c.in-16-to-47))
    (omega (arith, c.in-16-to-47)))

pub returns-then-from-place : goal.returns-then-from-place
returns-then-from-place c =
    let row = row_salt c.args.bytes.now c.args.size c.args.place (omega (arith, c.in-80-to-111)) (omega (
      arith,
      c.in-80-to-111,
    )) in
    let at_most : leb (get_or c.args.bytes.now 3 0) (c.args.place - 80) ≡ true =
    le-leb _ _ (omega (arith, c.if-from-place.true, c.from-in-80-to-111.ensures)) in
    and_second (leb (get_or c.args.bytes.now 3 0) (c.args.place - 80)) (not (eqb (get_or c.args.bytes.now c.from.result
    0) 0)) at_most ∙ rw c.from.ensures (sym row)

pub returns-else-from-place : goal.returns-else-from-place
returns-else-from-place c =
    let row = row_salt c.args.bytes.now c.args.size c.args.place (omega (arith, c.in-80-to-111)) (omega (
      arith,
      c.in-80-to-111,
    )) in
    let above : leb c.from-in-80-to-111.result (c.args.place - 80) ≡ false =
    lt-leb _ _ c.if-from-place.false in
    and_first (leb c.from-in-80-to-111.result (c.args.place - 80)) (not (eqb (get_or c.args.bytes.now c.args.place 0) 0))
    above ∙ rw c.from-in-80-to-111.ensures (sym row)

pub returns-in_default : goal.returns-in_default
returns-in_default c = rw c.from.ensures (elim c.in_default.branch [
  | in_default-via-then-place-lt8 w ↦
      sym (row_reserved c.args.bytes.now c.args.size c.args.place (omega (arith, w)) (omega (arith, w)))
  | in_default-via-else-place-lt8+else-place-lt16+else-place-lt48+then-place-lt80 w ↦
      sym (row_behind_root c.args.bytes.now c.args.size c.args.place (omega (arith, w)) (omega (arith, w)))
  | in_default-via-else-place-lt8+else-place-lt16+else-place-lt48+else-place-lt80+else-place-lt112 w ↦
      sym (row_last c.args.bytes.now c.args.size c.args.place (omega (arith, w)))
])
