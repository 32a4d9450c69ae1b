-- The made-up roll-out of a seed: 16 policies of four names, 8 files, and ten phases in which an administrator and 8
-- workers ask.
use Rattle.std.specs.Prelude.{ℕ, ◌+◌, ◌*◌, ◌/◌, ◌%◌, ◌==◌, true, false, if◌then◌else◌, codes, List, [], ◌∷◌, ◌++◌, map, Option, Some, None}
use Rattle.std.specs.List.{concat, range_with_len}
use Rattle.std.specs.Fmt.{decimal}
use Rattle.line_words.specs.Lines.{line_text}
use Rattle.ipe_policy.specs.declared.request.Kind.{Kind}
use Rattle.ipe_policy.specs.declared.request.Kind.TheVariants.{Firmware, Module, KexecImage, KexecInitramfs, Policy, X509}
use Rattle.ipe_policy.specs.declared.request.Request.{Request}
use Rattle.ipe_policy.specs.declared.request.Request.TheVariants as request
use Rattle.ipe_requests.specs.declared.script.TextLine.{TextLine}
use Rattle.ipe_requests.specs.declared.script.FileLine.{FileLine}
use Rattle.ipe_requests.specs.declared.script.FileForm.TheVariants as form
use Rattle.ipe_requests.specs.declared.script.MarkLine.{MarkLine}
use Rattle.ipe_requests.specs.declared.script.MarkPurpose.TheVariants as purpose
use Rattle.ipe_requests.specs.declared.script.MarkVerdict.TheVariants as verdict
use Rattle.ipe_requests.specs.declared.script.MarkDigest.TheVariants as digest
use Rattle.ipe_requests.specs.declared.script.Phase.{Phase}
use Rattle.ipe_requests.specs.declared.script.PhaseLine.{PhaseLine}
use Rattle.ipe_requests.specs.declared.script.PhaseLine.TheVariants as asked
use Rattle.ipe_requests.specs.declared.script.WriteContent.{WriteContent}
use Rattle.ipe_requests.specs.declared.script.WriteContent.TheVariants as content
use Rattle.ipe_requests.specs.Requests.{Script}
use Rattle.ipe_sim.specs.Draws.{draw_below}

-- so many items, each by its number from 0
unfoldable pub each : {A : Type 0} → ℕ → (ℕ → A) → List A
each count item = map item (range_with_len 0 count)

-- ---- what is declared

-- the id of a text
abbrev pub text_id : ℕ → List ℕ
text_id i = codes "t" ++ decimal i

-- the name of a text's policy, of which there are four
abbrev pub policy_name : ℕ → List ℕ
policy_name i = codes "p" ++ decimal (i % 4)

-- the first line of a policy: the versions of a name rise with the number
abbrev pub header : ℕ → List ℕ
header i = codes "policy_name=" ++ policy_name i ++ codes " policy_version=1." ++ decimal (i / 4) ++ codes ".0"

-- every third policy allows what no rule decides
abbrev pub default : ℕ → List ℕ
default i = if i % 3 == 0 then codes "DEFAULT action=ALLOW" else codes "DEFAULT action=DENY"

-- the four lines of a policy
abbrev pub policy_text : ℕ → List ℕ
policy_text i = concat (
    line_text (header i)
    ∷ line_text (default i)
    ∷ line_text (codes "op=EXECUTE boot_verified=TRUE action=ALLOW")
    ∷ line_text (codes "op=KMODULE boot_verified=FALSE action=DENY")
    ∷ [])

-- the text of a policy, after the two first lines of the file and five lines for each text before it
abbrev pub text : ℕ → TextLine
text i = record { line = 3 + 5 * i; id = text_id i; lines = 4; bytes = policy_text i }

-- the path of a file
abbrev pub file_path : ℕ → List ℕ
file_path j = codes "/f" ++ decimal j

-- a file of the initial root file system
abbrev pub file : ℕ → FileLine
file j = record {
  line = 83 + j;
  path = file_path j;
  form = form.Boot (codes "rootfs") (100 + j) (text_id j);
}

-- each policy is vouched for
abbrev pub mark : ℕ → MarkLine
mark i = record {
  line = 91 + i;
  purpose = purpose.Policy;
  verdict = verdict.Trusted;
  digest = digest.Text (text_id i);
}

-- ---- what is asked

-- a node of a policy
abbrev pub policy_node : ℕ → List ℕ → List ℕ
policy_node i node = codes "policies/" ++ policy_name i ++ node

-- the node that a command of kind k writes
abbrev pub node : ℕ → ℕ → List ℕ
node k i =
    if k == 0 then codes "new_policy"
    else if k == 1 then policy_node i (codes "/update")
    else if k == 2 then policy_node i (codes "/active")
    else if k == 3 then policy_node i (codes "/delete")
    else if k == 4 then codes "enforce"
    else codes "success_audit"

-- what a command of kind k writes: a policy, 1, or one of 0 and 1
abbrev pub written : ℕ → ℕ → WriteContent
written k i =
    if k == 0 then content.Text (text_id i)
    else if k == 1 then content.Text (text_id i)
    else if k == 2 then content.Echo (codes "1")
    else if k == 3 then content.Echo (codes "1")
    else content.Echo (decimal (i % 2))

-- the command of kind k with the number i
abbrev pub command : ℕ → ℕ → ℕ → PhaseLine
command line k i = asked.Write line true (node k i) (written k i)

-- the kinds of files that the kernel reads, in their order
abbrev pub kind : ℕ → Kind
kind c =
    if c == 0 then Firmware
    else if c == 1 then Module
    else if c == 2 then KexecImage
    else if c == 3 then KexecInitramfs
    else if c == 4 then Policy
    else X509

-- what a hook of kind k asks: a program check, a mapping that is executable or isn't, an `mprotect` that makes memory
-- executable, a kernel read or a kernel load
abbrev pub asks : ℕ → ℕ → Request
asks k c =
    if k == 0 then request.ExecCheck
    else if k == 1 then request.Mmap (if c % 2 == 0 then 5 else 1)
    else if k == 2 then request.Mprotect false 4
    else if k == 3 then request.KernelRead (kind c)
    else request.KernelLoad (kind c)

-- the file that a hook of kind k names
abbrev pub named : ℕ → ℕ → Option (List ℕ)
named k j = if k == 2 then None else if k == 4 then None else Some (file_path j)

-- the hook of kind k of a worker, for the file j and the kind of file c
abbrev pub hook : ℕ → ℕ → ℕ → ℕ → ℕ → PhaseLine
hook line worker k j c = asked.Hook line worker (asks k c) (record { pid = 1000 + worker; comm = codes "sim" }) (named k j)

-- ---- the phases

-- the line of a phase, after 106 lines and 8,031 lines for each phase before it
abbrev pub phase_line : ℕ → ℕ
phase_line p = 107 + 8031 * p

-- the draws before a phase: each of its 30 commands takes two, and each of its 8,000 hooks three
abbrev pub draws_before : ℕ → ℕ
draws_before p = 24060 * p

-- the command of this number in a phase: it draws its kind, and then a policy
abbrev pub command_at : ℕ → ℕ → ℕ → PhaseLine
command_at seed p n =
    command (phase_line p + 1 + n) (draw_below seed (draws_before p + 2 * n) 6)
    (draw_below seed (draws_before p + 2 * n + 1) 16)

-- the hook of this number in a phase: each worker has 1,000 of them, one worker after another; it draws its kind, then a
-- file, and then a kind of file
abbrev pub hook_at : ℕ → ℕ → ℕ → PhaseLine
hook_at seed p n =
    hook (phase_line p + 31 + n) (n / 1000 + 1) (draw_below seed (draws_before p + 60 + 3 * n) 5)
    (draw_below seed (draws_before p + 61 + 3 * n) 8) (draw_below seed (draws_before p + 62 + 3 * n) 6)

-- a phase: the commands, and then the hooks
abbrev pub phase : ℕ → ℕ → Phase
phase seed p = record { line = phase_line p; lines = each 30 (command_at seed p) ++ each 8000 (hook_at seed p) }

-- the whole roll-out
abbrev pub roll : ℕ → Script
roll seed = record {
  workers = 8;
  texts = each 16 text;
  volumes = [];
  files = each 8 file;
  seals = [];
  marks = each 16 mark;
  phases = each 10 (phase seed);
}
