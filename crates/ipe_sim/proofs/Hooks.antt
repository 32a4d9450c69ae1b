-- The hook lines of a phase.
use Rattle.std.proofs.Common.{◌≡◌, ℕ, zero, suc, ◌+◌, ◌%◌, ◌<◌, ◌≤◌, Bool, true, false, cond, ◌==◌, codes, List, [], ◌∷◌, ◌++◌, length, Option, Some, None, Ok, refl, ap, ◌∙◌, arith}
use Rattle.std.specs.Fmt.{decimal}
use Rattle.std.specs.List.{list_all}
use Rattle.std.proofs.lemmas.Bool.{and_from}
use Rattle.ipe_policy.specs.declared.request.Kind.{Kind}
use Rattle.ipe_policy.specs.declared.request.Kind.TheVariants.{Firmware, Module, KexecImage, KexecInitramfs, Policy, X509}
use Rattle.ipe_policy.specs.declared.request.Request.{Request}
use Rattle.ipe_policy.specs.declared.request.Request.TheVariants as request
use Rattle.ipe_policy.specs.declared.request.Subject.{Subject}
use Rattle.ipe_requests.specs.declared.script.Phase.{Phase}
use Rattle.ipe_requests.specs.declared.script.PhaseLine.{PhaseLine}
use Rattle.ipe_requests.specs.declared.script.PhaseLine.TheVariants as asked
use Rattle.ipe_requests.specs.declared.known.Known.{Known}
use Rattle.ipe_requests.specs.declared.line.Section.{Section}
use Rattle.ipe_requests.specs.declared.line.Section.TheVariants as section
use Rattle.ipe_requests.specs.declared.line.Line.TheVariants as line
use Rattle.ipe_requests.specs.Words.{bit_of, bit_word, kind_word}
use Rattle.ipe_requests.specs.Known.{a_file, hook_work, raised}
use Rattle.ipe_requests.specs.Table.{Bit, By, Cell, Comm, FileKind, Number, Old, OldOrDash, Values, Worker, cells, line_of, may_follow}
use Rattle.ipe_requests.specs.Reading.{read_word, shape_of}
use Rattle.ipe_requests.specs.Spelling.{asked_text, hook_shape, hook_values}
use Rattle.ipe_sim.proofs.Says.{AreSaid, are_plain, is_in_word, words_said}
use Rattle.ipe_sim.proofs.SaysWords.{comm-said, kind-said, number-said, old-said, worker-said}
use Rattle.ipe_sim.specs.Roll.{file_path, hook, kind}
use Rattle.ipe_sim.proofs.Facts.{is_file}
use Rattle.ipe_sim.proofs.Numbers.{decimal_plain, decimal_short}
use Rattle.ipe_sim.proofs.Stages.{Counts, Few, Leads, known_at, leads-said, raised-few, room}
use Rattle.ipe_sim.proofs.Sizes.{hook-few}
use Rattle.ipe_sim.proofs.Commands.{Within, asking, limits}

-- the counts with a hook's
abbrev with_hook : Counts → ℕ → Counts
with_hook counts work = record counts { hooks = raised counts.hooks 1; work = raised counts.work work }

hook-counts : (count work : ℕ) (counts : Counts) → Few count counts → work ≤ 4096 → Few (count + 1) (with_hook counts work)
hook-counts count work counts few small = record {
  commands = omega (arith, few.commands);
  hooks = omega (arith, few.hooks, raised-few counts.hooks 1);
  work = omega (arith, few.work, small, raised-few counts.work work);
}

abbrev task : ℕ → Subject
task worker = record { pid = 1000 + worker; comm = codes "sim" }

-- where a hook stands
pub record Place : Type 0 where
  pub section : Section
  pub phases : List Phase
  pub opened : ℕ
  pub lines : List PhaseLine
  pub count : ℕ
  pub worker : ℕ

-- a hook that is spelled in these words
record Spells (at_place : Place) (what : Request) (path : Option (List ℕ)) (words : List (List ℕ)) : Type 0 where
  pub spelled : words_said (line.Asked (asked.Hook (at_place.count + 1) at_place.worker what (task at_place.worker) path))
      ≡ (codes "w" ++ decimal at_place.worker) ∷ words
  pub plain : are_plain words ≡ true
  pub short : room words ≤ 100
  pub placed : shape_of (may_follow section.Asked) ((codes "w" ++ decimal at_place.worker) ∷ words)
      ≡ Some (hook_shape what)
  pub says : (counts : Counts)
      → AreSaid (known_at (at_place.count + 1) (asking at_place.section at_place.phases at_place.opened at_place.lines) counts)
      (cells (hook_shape what)) (hook_values at_place.worker what (task at_place.worker) path)
  pub told : line_of (at_place.count + 1) (hook_shape what) (hook_values at_place.worker what (task at_place.worker) path)
      ≡ line.Asked (asked.Hook (at_place.count + 1) at_place.worker what (task at_place.worker) path)

worker-word : (worker : ℕ) → worker ≤ 8 → list_all is_in_word (codes "w" ++ decimal worker) ≡ true
worker-word worker few = decimal_plain worker (omega (arith, few))

worker-short : (worker : ℕ) → worker ≤ 8 → length (codes "w" ++ decimal worker) ≤ 21
worker-short worker few = omega (arith, decimal_short worker (omega (arith, few)))

spelled-leads : (p : Place) (what : Request) (path : Option (List ℕ)) (words : List (List ℕ))
    → Within p.section p.phases p.count → p.worker ≤ 8 → Spells p what path words
    → Leads p.count (asking p.section p.phases p.opened p.lines)
    (asked_text (asked.Hook (p.count + 1) p.worker what (task p.worker) path)) (p.count + 1)
    (asking section.Asked p.phases p.opened
    (p.lines ++ (asked.Hook (p.count + 1) p.worker what (task p.worker) path) ∷ []))
spelled-leads p what path words within among spells =
    let told : PhaseLine = asked.Hook (p.count + 1) p.worker what (task p.worker) path in
    let who : List ℕ = codes "w" ++ decimal p.worker in
    leads-said p.count (asking p.section p.phases p.opened p.lines)
    (asking section.Asked p.phases p.opened (p.lines ++ told ∷ [])) (line.Asked told) who words spells.spelled
    (omega (arith, worker-short p.worker among, spells.short))
    (λ counts few.
    let known = known_at (p.count + 1) (asking p.section p.phases p.opened p.lines) counts in
    let work = hook_work known what path in
    let fews : Few (p.count + 1) (with_hook counts work) =
    hook-counts p.count work counts few (hook-few known what path refl refl) in (
      with_hook counts work,
      fews,
      record {
        spelled = spells.spelled;
        plain = and_from (list_all is_in_word who) (are_plain words) (worker-word p.worker among) spells.plain;
        placed = ap (λ shapes. shape_of shapes (who ∷ words)) within.follow ∙ spells.placed;
        says = spells.says counts;
        told = spells.told;
        ranged = refl;
        within = limits p.phases p.opened (p.lines ++ told ∷ []) p.count (with_hook counts work) p.section within fews;
      },
      refl,
    ))

-- ---- the words of each kind

pub record Asks (worker j : ℕ) : Type 0 where
  pub some : 0 < worker
  pub among : worker ≤ 8
  pub below : j < 8

pid-plain : (worker : ℕ) → worker ≤ 8 → list_all is_in_word (decimal (1000 + worker)) ≡ true
pid-plain worker few = decimal_plain (1000 + worker) (omega (arith, few))

pid-short : (worker : ℕ) → worker ≤ 8 → length (decimal (1000 + worker)) ≤ 20
pid-short worker few = decimal_short (1000 + worker) (omega (arith, few))

kind-plain : (of : Kind) → list_all is_in_word (kind_word of) ≡ true
kind-plain Firmware = refl
kind-plain Module = refl
kind-plain KexecImage = refl
kind-plain KexecInitramfs = refl
kind-plain Policy = refl
kind-plain X509 = refl

kind-short : (of : Kind) → length (kind_word of) ≤ 15
kind-short Firmware = omega arith
kind-short Module = omega arith
kind-short KexecImage = omega arith
kind-short KexecInitramfs = omega arith
kind-short Policy = omega arith
kind-short X509 = omega arith

bit-said : (known : Known) → read_word known Bit (bit_word false) ≡ Ok false
unfolding bit_of
bit-said known = refl

-- what is known where a hook is read
abbrev hook_known : Place → Counts → Known
hook_known p counts = known_at (p.count + 1) (asking p.section p.phases p.opened p.lines) counts

-- the words of any hook say its worker and its task, and then what these cells do
task-said : (p : Place) (j : ℕ) (counts : Counts) (row : List Cell) (values : Values row) → Asks p.worker j
    → AreSaid (hook_known p counts) row values
    → (read_word (hook_known p counts) Worker (codes "w" ++ decimal p.worker) ≡ Ok p.worker)
    × ((read_word (hook_known p counts) (Number 0 4294967295) (decimal (1000 + p.worker)) ≡ Ok (1000 + p.worker))
    × ((read_word (hook_known p counts) Comm (codes "sim") ≡ Ok (codes "sim")) × AreSaid (hook_known p counts) row values))
task-said p j counts row values asks said =
    let known = hook_known p counts in (
      worker-said known p.worker asks.some asks.among (omega (arith, asks.among)),
      (
        number-said known 0 4294967295 (1000 + p.worker) (omega arith) (omega arith) (omega (arith, asks.among)),
        (comm-said known (codes "sim") refl, said),
      ),
    )

spells-exec : (p : Place) (j : ℕ) → Asks p.worker j
    → Spells p request.ExecCheck (Some (file_path j))
    (codes "exec" ∷ decimal (1000 + p.worker) ∷ codes "sim" ∷ file_path j ∷ [])
spells-exec p j asks =
    let path = is_file j asks.below in
    record {
      spelled = refl;
      plain = and_from (list_all is_in_word (decimal (1000 + p.worker))) _ (pid-plain p.worker asks.among)
          (and_from (list_all is_in_word (file_path j)) true path.plain refl);
      short = omega (arith, pid-short p.worker asks.among, path.short);
      placed = refl;
      says = λ counts.
          task-said p j counts (By (Old a_file) ∷ []) (file_path j, tt) asks
          (old-said (hook_known p counts) a_file (file_path j) path.rule path.declared, tt);
      told = refl;
    }

spells-mmap : (p : Place) (j prot : ℕ) → Asks p.worker j → prot ≤ 5
    → Spells p (request.Mmap prot) (Some (file_path j))
    (codes "mmap" ∷ decimal (1000 + p.worker) ∷ codes "sim" ∷ decimal prot ∷ file_path j ∷ [])
spells-mmap p j prot asks small =
    let path = is_file j asks.below in
    record {
      spelled = refl;
      plain = and_from (list_all is_in_word (decimal (1000 + p.worker))) _ (pid-plain p.worker asks.among)
          (and_from (list_all is_in_word (decimal prot)) _ (decimal_plain prot (omega (arith, small)))
          (and_from (list_all is_in_word (file_path j)) true path.plain refl));
      short = omega (arith, pid-short p.worker asks.among, decimal_short prot (omega (arith, small)), path.short);
      placed = refl;
      says = λ counts.
          task-said p j counts (By (Number 0 4294967295) ∷ By (Old a_file) ∷ []) (prot, (file_path j, tt)) asks (
            number-said (hook_known p counts) 0 4294967295 prot (omega arith) (omega arith) (omega (arith, small)),
            (old-said (hook_known p counts) a_file (file_path j) path.rule path.declared, tt),
          );
      told = refl;
    }

dash-said : (known : Known) → read_word known OldOrDash (codes "-") ≡ Ok None
dash-said known = refl

spells-mprotect : (p : Place) (j : ℕ) → Asks p.worker j
    → Spells p (request.Mprotect false 4) None
    (codes "mprotect" ∷ decimal (1000 + p.worker) ∷ codes "sim" ∷ codes "0" ∷ decimal 4 ∷ codes "-" ∷ [])
spells-mprotect p j asks = record {
  spelled = refl;
  plain = and_from (list_all is_in_word (decimal (1000 + p.worker))) _ (pid-plain p.worker asks.among)
      (and_from (list_all is_in_word (decimal 4)) _ (decimal_plain 4 (omega arith)) refl);
  short = omega (arith, pid-short p.worker asks.among, decimal_short 4 (omega arith));
  placed = refl;
  says = λ counts.
      task-said p j counts (By Bit ∷ By (Number 0 4294967295) ∷ By OldOrDash ∷ []) (false, (4, (None, tt))) asks (
        bit-said (hook_known p counts),
        (number-said (hook_known p counts) 0 4294967295 4 (omega arith) (omega arith) (omega arith), (dash-said (hook_known p counts), tt)),
      );
  told = refl;
}

spells-read : (p : Place) (j : ℕ) (of : Kind) → Asks p.worker j
    → Spells p (request.KernelRead of) (Some (file_path j))
    (codes "read" ∷ decimal (1000 + p.worker) ∷ codes "sim" ∷ kind_word of ∷ file_path j ∷ [])
spells-read p j of asks =
    let path = is_file j asks.below in
    record {
      spelled = refl;
      plain = and_from (list_all is_in_word (decimal (1000 + p.worker))) _ (pid-plain p.worker asks.among)
          (and_from (list_all is_in_word (kind_word of)) _ (kind-plain of)
          (and_from (list_all is_in_word (file_path j)) true path.plain refl));
      short = omega (arith, pid-short p.worker asks.among, kind-short of, path.short);
      placed = refl;
      says = λ counts.
          task-said p j counts (By FileKind ∷ By (Old a_file) ∷ []) (of, (file_path j, tt)) asks
          (kind-said (hook_known p counts) of, (old-said (hook_known p counts) a_file (file_path j) path.rule path.declared, tt));
      told = refl;
    }

spells-load : (p : Place) (j : ℕ) (of : Kind) → Asks p.worker j
    → Spells p (request.KernelLoad of) None
    (codes "load" ∷ decimal (1000 + p.worker) ∷ codes "sim" ∷ kind_word of ∷ [])
spells-load p j of asks = record {
  spelled = refl;
  plain = and_from (list_all is_in_word (decimal (1000 + p.worker))) _ (pid-plain p.worker asks.among)
      (and_from (list_all is_in_word (kind_word of)) true (kind-plain of) refl);
  short = omega (arith, pid-short p.worker asks.among, kind-short of);
  placed = refl;
  says = λ counts.
      task-said p j counts (By FileKind ∷ []) (of, tt) asks
      (kind-said (hook_known p counts) of, tt);
  told = refl;
}

prot-small : (b : Bool) → cond b 5 1 ≤ 5
prot-small true = omega arith
prot-small false = omega arith

-- each of five numbers
five : (P : ℕ → Type 0) → P 0 → P 1 → P 2 → P 3 → P 4 → (k : ℕ) → k < 5 → P k
five P a b c d e zero below = a
five P a b c d e (suc zero) below = b
five P a b c d e (suc (suc zero)) below = c
five P a b c d e (suc (suc (suc zero))) below = d
five P a b c d e (suc (suc (suc (suc zero)))) below = e
five P a b c d e (suc (suc (suc (suc (suc k))))) below = absurd (omega (arith, below))

-- a hook of each kind
pub hook-leads : (p : Place) (k j c : ℕ) → Within p.section p.phases p.count → Asks p.worker j → k < 5
    → Leads p.count (asking p.section p.phases p.opened p.lines) (asked_text (hook (p.count + 1) p.worker k j c))
    (p.count + 1)
    (asking section.Asked p.phases p.opened (p.lines ++ (hook (p.count + 1) p.worker k j c) ∷ []))
hook-leads p k j c within asks below =
    five (λ (k : ℕ). Leads p.count (asking p.section p.phases p.opened p.lines)
    (asked_text (hook (p.count + 1) p.worker k j c)) (p.count + 1)
    (asking section.Asked p.phases p.opened (p.lines ++ (hook (p.count + 1) p.worker k j c) ∷ [])))
    (spelled-leads p request.ExecCheck (Some (file_path j))
    (codes "exec" ∷ decimal (1000 + p.worker) ∷ codes "sim" ∷ file_path j ∷ []) within asks.among (spells-exec p j asks))
    (spelled-leads p (request.Mmap (cond (c % 2 == 0) 5 1)) (Some (file_path j))
    (codes "mmap" ∷ decimal (1000 + p.worker) ∷ codes "sim" ∷ decimal (cond (c % 2 == 0) 5 1) ∷ file_path j ∷ [])
    within asks.among (spells-mmap p j (cond (c % 2 == 0) 5 1) asks (prot-small (c % 2 == 0))))
    (spelled-leads p (request.Mprotect false 4) None
    (codes "mprotect" ∷ decimal (1000 + p.worker) ∷ codes "sim" ∷ codes "0" ∷ decimal 4 ∷ codes "-" ∷ []) within
    asks.among (spells-mprotect p j asks))
    (spelled-leads p (request.KernelRead (kind c)) (Some (file_path j))
    (codes "read" ∷ decimal (1000 + p.worker) ∷ codes "sim" ∷ kind_word (kind c) ∷ file_path j ∷ []) within asks.among
    (spells-read p j (kind c) asks))
    (spelled-leads p (request.KernelLoad (kind c)) None
    (codes "load" ∷ decimal (1000 + p.worker) ∷ codes "sim" ∷ kind_word (kind c) ∷ []) within asks.among
    (spells-load p j (kind c) asks)) k below
