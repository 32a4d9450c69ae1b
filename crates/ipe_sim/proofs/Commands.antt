-- The lines of a phase.
use Rattle.std.proofs.Common.{◌≡◌, ℕ, ◌+◌, ◌%◌, ◌<◌, ◌≤◌, Bool, true, false, cond, ◌==◌, codes, List, [], ◌∷◌, ◌++◌, length, Some, Ok, refl, ap, arith}
use Rattle.std.specs.Fmt.{decimal}
use Rattle.std.specs.List.{list_all}
use Rattle.std.proofs.lemmas.Bool.{and_from}
use Rattle.std.proofs.lemmas.List.{length-append}
use Rattle.ipe_requests.specs.declared.script.Phase.{Phase}
use Rattle.ipe_requests.specs.declared.script.PhaseLine.{PhaseLine}
use Rattle.ipe_requests.specs.declared.script.PhaseLine.TheVariants as asked
use Rattle.ipe_requests.specs.declared.script.WriteContent.TheVariants as content
use Rattle.ipe_requests.specs.declared.known.Known.{Known}
use Rattle.ipe_requests.specs.declared.line.Section.{Section}
use Rattle.ipe_requests.specs.declared.line.Section.TheVariants as section
use Rattle.ipe_requests.specs.declared.line.Line.TheVariants as line
use Rattle.ipe_requests.specs.Words.{right_of, right_word}
use Rattle.ipe_requests.specs.Known.{a_text, is_within_limits, raised, write_work}
use Rattle.ipe_requests.specs.Table.{Right, may_follow}
use Rattle.ipe_requests.specs.Reading.{read_word, shape_of}
use Rattle.ipe_requests.specs.Spelling.{asked_text}
use Rattle.ipe_sim.proofs.Says.{is_in_word}
use Rattle.ipe_sim.proofs.SaysWords.{old-said, visible-said}
use Rattle.ipe_sim.specs.Roll.{command, file_path, mark, node, policy_node, text_id}
use Rattle.ipe_sim.proofs.Each.{length-each}
use Rattle.ipe_sim.proofs.Facts.{HasNodes, IsShortWord, has_nodes, is_id, is_word_of, value_passes}
use Rattle.ipe_sim.proofs.Stages.{Counts, Few, Leads, Stage, known_at, leads-said, raised-few, within-limits}
use Rattle.ipe_sim.proofs.Files.{mark_part}
use Rattle.ipe_sim.proofs.Sizes.{write-few}

-- in a phase after these
abbrev pub asking : Section → List Phase → ℕ → List PhaseLine → Stage
asking place phases opened lines = record (mark_part 16) {
  place = place;
  phases = phases;
  opened = Some opened;
  asked = lines;
}

-- the place is within a phase, and there are not too many phases and lines
pub record Within (place : Section) (phases : List Phase) (count : ℕ) : Type 0 where
  pub follow : may_follow place ≡ may_follow section.Asked
  pub few : length phases ≤ 10
  pub most : count ≤ 85000

pub limits : (phases : List Phase) (opened : ℕ) (lines : List PhaseLine) (count : ℕ) (counts : Counts) (place : Section)
    → Within place phases count → Few (count + 1) counts
    → is_within_limits (known_at (count + 1) (asking section.Asked phases opened lines) counts) ≡ true
limits phases opened lines count counts place within few =
    within-limits (count + 1) (asking section.Asked phases opened lines) counts few (omega (arith, within.most))
    (omega (arith, length-each 16 text_id)) (omega (arith, length-each 8 file_path))
    (omega (arith, length-each 16 mark))
    (omega (arith, length-append phases ((record { line = opened; lines = lines }) ∷ []), within.few))

-- ---- commands

-- the counts with a write's
abbrev with_write : Counts → ℕ → Counts
with_write counts work = record counts { commands = raised counts.commands 1; work = raised counts.work work }

write-counts : (count work : ℕ) (counts : Counts) → Few count counts → work ≤ 4096 → Few (count + 1) (with_write counts work)
write-counts count work counts few small = record {
  commands = omega (arith, few.commands, raised-few counts.commands 1);
  hooks = omega (arith, few.hooks);
  work = omega (arith, few.work, small, raised-few counts.work work);
}

right-said : (known : Known) → read_word known Right (right_word true) ≡ Ok true
unfolding right_of
right-said known = refl

-- a policy is written
text-leads : (place : Section) (phases : List Phase) (opened : ℕ) (lines : List PhaseLine) (count i : ℕ) (node : List ℕ)
    → Within place phases count → i < 16 → IsShortWord 320 24 node
    → Leads count (asking place phases opened lines) (asked_text (asked.Write (count + 1) true node (content.Text (text_id i))))
    (count + 1)
    (asking section.Asked phases opened (lines ++ (asked.Write (count + 1) true node (content.Text (text_id i))) ∷ []))
text-leads place phases opened lines count i node within below word =
    let id = is_id i below in
    let what : PhaseLine = asked.Write (count + 1) true node (content.Text (text_id i)) in
    leads-said count (asking place phases opened lines) (asking section.Asked phases opened (lines ++ what ∷ []))
    (line.Asked what) (codes "admin") (codes "write" ∷ node ∷ codes "text" ∷ text_id i ∷ []) refl
    (omega (arith, word.few, id.short))
    (λ counts few.
    let known = known_at (count + 1) (asking place phases opened lines) counts in
    let work = write_work known (content.Text (text_id i)) in
    let fews : Few (count + 1) (with_write counts work) =
    write-counts count work counts few (write-few known (content.Text (text_id i)) refl) in (
      with_write counts work,
      fews,
      record {
        spelled = refl;
        plain = and_from (list_all is_in_word node) _ word.plain (and_from (list_all is_in_word (text_id i)) true id.plain refl);
        placed = ap (λ shapes. shape_of shapes (codes "admin" ∷ codes "write" ∷ node ∷ codes "text" ∷ text_id i ∷ []))
            within.follow;
        says = (
          right-said known,
          (visible-said known 320 node word.visible, (old-said known a_text (text_id i) id.rule id.declared, tt)),
        );
        told = refl;
        ranged = refl;
        within = limits phases opened (lines ++ what ∷ []) count (with_write counts work) place within fews;
      },
      refl,
    ))

-- a word is written
echo-leads : (place : Section) (phases : List Phase) (opened : ℕ) (lines : List PhaseLine) (count : ℕ) (node echo : List ℕ)
    → Within place phases count → IsShortWord 320 24 node → IsShortWord 64 2 echo
    → Leads count (asking place phases opened lines) (asked_text (asked.Write (count + 1) true node (content.Echo echo)))
    (count + 1)
    (asking section.Asked phases opened (lines ++ (asked.Write (count + 1) true node (content.Echo echo)) ∷ []))
echo-leads place phases opened lines count node echo within word value =
    let what : PhaseLine = asked.Write (count + 1) true node (content.Echo echo) in
    leads-said count (asking place phases opened lines) (asking section.Asked phases opened (lines ++ what ∷ []))
    (line.Asked what) (codes "admin") (codes "write" ∷ node ∷ codes "echo" ∷ echo ∷ []) refl
    (omega (arith, word.few, value.few))
    (λ counts few.
    let known = known_at (count + 1) (asking place phases opened lines) counts in
    let fews : Few (count + 1) (with_write counts 0) = write-counts count 0 counts few (omega arith) in (
      with_write counts 0,
      fews,
      record {
        spelled = refl;
        plain = and_from (list_all is_in_word node) _ word.plain (and_from (list_all is_in_word echo) true value.plain refl);
        placed = ap (λ shapes. shape_of shapes (codes "admin" ∷ codes "write" ∷ node ∷ codes "echo" ∷ echo ∷ []))
            within.follow;
        says = (
          right-said known,
          (visible-said known 320 node word.visible, (visible-said known 64 echo value.visible, tt)),
        );
        told = refl;
        ranged = refl;
        within = limits phases opened (lines ++ what ∷ []) count (with_write counts 0) place within fews;
      },
      refl,
    ))

-- the command of a kind that these tests tell
abbrev told : ℕ → ℕ → Bool → Bool → Bool → Bool → Bool → PhaseLine
told line i a b c d e =
    asked.Write line true
    (cond a (codes "new_policy") (cond b (policy_node i (codes "/update")) (cond c (policy_node i (codes "/active"))
    (cond d (policy_node i (codes "/delete")) (cond e (codes "enforce") (codes "success_audit"))))))
    (cond a (content.Text (text_id i)) (cond b (content.Text (text_id i)) (cond c (content.Echo (codes "1"))
    (cond d (content.Echo (codes "1")) (content.Echo (decimal (i % 2)))))))

-- a command of each kind
pub command-leads : (place : Section) (phases : List Phase) (opened : ℕ) (lines : List PhaseLine) (count k i : ℕ)
    → Within place phases count → i < 16
    → Leads count (asking place phases opened lines) (asked_text (command (count + 1) k i)) (count + 1)
    (asking section.Asked phases opened (lines ++ (command (count + 1) k i) ∷ []))
command-leads place phases opened lines count k i within below =
    picked (k == 0) (k == 1) (k == 2) (k == 3) (k == 4)
  where
    nodes : HasNodes i
    nodes = has_nodes i below

    load : IsShortWord 320 24 (codes "new_policy")
    load = is_word_of 320 24 (codes "new_policy") refl

    update : IsShortWord 320 24 (policy_node i (codes "/update"))
    update = is_word_of 320 24 (policy_node i (codes "/update")) nodes.update

    active : IsShortWord 320 24 (policy_node i (codes "/active"))
    active = is_word_of 320 24 (policy_node i (codes "/active")) nodes.active

    delete : IsShortWord 320 24 (policy_node i (codes "/delete"))
    delete = is_word_of 320 24 (policy_node i (codes "/delete")) nodes.delete

    enforce : IsShortWord 320 24 (codes "enforce")
    enforce = is_word_of 320 24 (codes "enforce") refl

    audit : IsShortWord 320 24 (codes "success_audit")
    audit = is_word_of 320 24 (codes "success_audit") refl

    one : IsShortWord 64 2 (codes "1")
    one = is_word_of 64 2 (codes "1") refl

    value : IsShortWord 64 2 (decimal (i % 2))
    value = is_word_of 64 2 (decimal (i % 2)) (value_passes i below)

    picked : (a b c d e : Bool)
        → Leads count (asking place phases opened lines) (asked_text (told (count + 1) i a b c d e)) (count + 1)
        (asking section.Asked phases opened (lines ++ (told (count + 1) i a b c d e) ∷ []))
    picked true b c d e = text-leads place phases opened lines count i (codes "new_policy") within below load
    picked false true c d e =
        text-leads place phases opened lines count i (policy_node i (codes "/update")) within below
        update
    picked false false true d e =
        echo-leads place phases opened lines count (policy_node i (codes "/active")) (codes "1")
        within active one
    picked false false false true e =
        echo-leads place phases opened lines count (policy_node i (codes "/delete")) (codes "1")
        within delete one
    picked false false false false true =
        echo-leads place phases opened lines count (codes "enforce") (decimal (i % 2)) within enforce value
    picked false false false false false =
        echo-leads place phases opened lines count (codes "success_audit") (decimal (i % 2)) within audit value
