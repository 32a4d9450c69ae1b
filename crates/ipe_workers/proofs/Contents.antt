-- What the file after a hook comes to.
use Rattle.std.proofs.Common.{◌≡◌, ℕ, ℤ, pos, ◌&&◌, Bool, true, false, cond, List, [], ◌∷◌, Option, Some, None, is_some, find, refl, ap, subst, ◌∙◌, unwrap_or}
use Rattle.std.specs.Option.{option_map}
use Rattle.std.specs.Ordering.{int_eq}
use Rattle.std.proofs.lemmas.Option.{same_Some}
use Rattle.line_words.specs.Words.{is_text}
use Rattle.line_words.proofs.Spells.{text-is}
use Rattle.blk_device.specs.Contents.{Contents}
use Rattle.ipe_policy.specs.declared.request.Object.TheVariants as object
use Rattle.ipe_machine.specs.declared.event.CoreRuling.{CoreRuling}
use Rattle.ipe_requests.specs.Known.{reads_file}
use Rattle.ipe_requests.specs.declared.script.FileForm.{FileForm}
use Rattle.ipe_requests.specs.declared.script.FileForm.TheVariants as form
use Rattle.ipe_requests.specs.declared.script.FileLine.{FileLine}
use Rattle.ipe_requests.specs.Requests.{Script, file_of}
use Rattle.ipe_objects.specs.Contents as contents
use Rattle.ipe_objects.specs.Contents.{content_by, content_of}
use Rattle.ipe_objects.specs.Files.{object_by}
use Rattle.ipe_lines.specs.Asked.{Files, object_at}
use Rattle.ipe_lines.specs.Files.{files_of}
use Rattle.ipe_lines.specs.Told.{content_after, content_at}
use Rattle.ipe_weave.specs.Lines.{Access}

find_holds : {X : Type 0} (test : X → Bool) (xs : List X) (x : X) → find test xs ≡ Some x → test x ≡ true
find_holds test [] x e = absurd (cc)
find_holds test (y ∷ ys) x e = chosen (test y) refl (find_holds test ys x) e
  where
    chosen : (b : Bool) → test y ≡ b → (find test ys ≡ Some x → test x ≡ true)
        → cond b (Some y) (find test ys) ≡ Some x → test x ≡ true
    chosen true is later e = subst (λ z. test z ≡ true) (same_Some y x e) is
    chosen false is later e = later e

-- the file that is found under a path has this path
path_is : (script : Script) (path : List ℕ) (file : FileLine) → file_of script path ≡ Some file → file.path ≡ path
path_is script path file is = text-is path file.path (find_holds (λ (f : FileLine). is_text path f.path) script.files file is)

-- a file's object tells its path
by_form : (files : Files) (path : List ℕ) (form : FileForm) → content_at files (object_by path form) ≡ files.content path
by_form files path (form.Boot dev ino text) = refl
by_form files path (form.Volume volume first size ino) = refl
by_form files path (form.Plain device at size dev ino) = refl

found_content : (script : Script) (images : Contents) (path : List ℕ) (found : Option FileLine) → file_of script path ≡ found → is_some found ≡ true
    → content_at (files_of script images) (unwrap_or (option_map (λ (file : FileLine). object_by file.path file.form) found) object.NoFile) ≡ Some (contents.content_at script images found)
found_content script images path None is some = absurd (cc)
found_content script images path (Some file) is some =
    by_form (files_of script images) file.path file.form
    ∙ ap (λ (p : List ℕ). option_map (content_by script images) (file_of script p)) (path_is script path file is)
    ∙ ap (option_map (content_by script images)) is

-- what a declared file's hook is about comes to what the file comes to
pub content_declared : (script : Script) (images : Contents) (path : List ℕ) → is_some (file_of script path) ≡ true
    → content_at (files_of script images) (object_at (files_of script images) (Some path)) ≡ Some (content_of script images path)
content_declared script images path some = found_content script images path (file_of script path) refl some

-- a file that is read comes to what the object comes to
pub content_read : (files : Files) (access : Access) (ruling : CoreRuling) → reads_file access.request ≡ true → ruling.code ≡ pos 0 → content_after files access ruling ≡ content_at files access.object
content_read files access ruling reads allowed =
    ap (λ (b : Bool). cond (b && int_eq ruling.code (pos 0)) (content_at files access.object) None) reads
    ∙ ap (λ (code : ℤ). cond (int_eq code (pos 0)) (content_at files access.object) None) allowed
