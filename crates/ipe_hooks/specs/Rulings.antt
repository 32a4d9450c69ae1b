-- Rulings.
use Rattle.std.specs.Prelude.{ℕ, Bool, false, ◌&&◌, ◌||◌, if◌then◌else◌, pos, negsuc, Option, Some, None, is_some}
use Rattle.std.specs.Option.{option_map}
use Rattle.ipe_policy.specs.declared.evaluation.Found.{Found}
use Rattle.ipe_image.specs.declared.hit.Hit.{Hit}
use Rattle.ipe_image.specs.declared.hit.Ruling.{Ruling}
use Rattle.ipe_machine.specs.Machine.{denies}

-- what was decided, where something was
abbrev pub found_in : Option Hit → Option Found
found_in hit = option_map (λ (h : Hit). h.found) hit

-- the ruling on a request that isn't evaluated
abbrev pub no_ruling : Ruling
no_ruling = record { code = pos 0; place = None; hit = None; enforce = false; record_due = false }

-- the ruling at a claim with this epoch, count and switches, by what was decided there: -13 (permission denied) exactly
-- where that denies and enforce is on; a record is due where it denies, or allows and success_audit is on
abbrev pub ruling_on : ℕ → ℕ → Bool → Bool → Option Hit → Ruling
ruling_on epoch count enforce success hit = record {
  code = if denies (found_in hit) && enforce then negsuc 12 else pos 0;
  place = Some (record { epoch = epoch; count = count });
  hit = hit;
  enforce = enforce;
  record_due = is_some hit && (denies (found_in hit) || success);
}
