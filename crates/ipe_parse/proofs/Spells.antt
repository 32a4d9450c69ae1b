-- Words and tokens that are read are spelled so, and no others are.
use Rattle.std.proofs.Common.{◌≡◌, ℕ, ⊎_elim, true, cond, List, ◌++◌, length, drop, Option, Some, None, refl, sym, ◌∙◌, ap}
use Rattle.std.proofs.lemmas.Slice.Eq.{bytes_eq-Decides, starts_is}
use Rattle.std.proofs.lemmas.Bool.Decides.{Decides-eqb}
use Rattle.ipe_policy.specs.declared.op.Op.{Op}
use Rattle.ipe_policy.specs.declared.op.Op.TheVariants.{Execute, Firmware, Kmodule, KexecImage, KexecInitramfs, Policy, X509Cert}
use Rattle.ipe_policy.specs.declared.op.Action.{Action}
use Rattle.ipe_policy.specs.declared.op.Action.TheVariants.{Allow, Deny}
use Rattle.line_words.specs.Words.{is_text}
use Rattle.ipe_policy.specs.Spelling.{op_word, action_token}
use Rattle.ipe_parse.specs.Tokens.{action_named, begins, op_named}
use Rattle.ipe_parse.proofs.Steps.{chosen}

-- bytes that are a text by test are the text
pub text-is : (text bytes : List ℕ) → is_text text bytes ≡ true → bytes ≡ text
text-is text bytes e = (bytes_eq-Decides bytes text).0 e

-- a token that begins with a text is the text and the rest
pub begins-is : (text token : List ℕ) → begins text token ≡ true → token ≡ text ++ drop (length text) token
begins-is text token e = (starts_is Decides-eqb token text (begins text token) refl).0 e

-- a word that is one of the words spells its operation
op-at : (text word : List ℕ) (x op : Op) (o : Option Op) → op_word x ≡ text → cond (is_text text word) (Some x) o ≡ Some op → (o ≡ Some op → word ≡ op_word op) → word ≡ op_word op
op-at text word x op o spelled e others =
    ⊎_elim (λ h. text-is text word h.0 ∙ sym spelled ∙ ap op_word h.1) others (chosen (is_text text word) x op o e)

-- a word that names an operation is its word
pub op_named-is : (word : List ℕ) (op : Op) → op_named word ≡ Some op → word ≡ op_word op
op_named-is word op e =
    op-at (op_word Execute) word Execute op _ refl e λ e.
    op-at (op_word Firmware) word Firmware op _ refl e λ e.
    op-at (op_word Kmodule) word Kmodule op _ refl e λ e.
    op-at (op_word KexecImage) word KexecImage op _ refl e λ e.
    op-at (op_word KexecInitramfs) word KexecInitramfs op _ refl e λ e.
    op-at (op_word Policy) word Policy op _ refl e λ e.
    op-at (op_word X509Cert) word X509Cert op None refl e λ e. absurd (cc)

-- the word of an operation names it
pub op_named-word : (op : Op) → op_named (op_word op) ≡ Some op
op_named-word Execute = refl
op_named-word Firmware = refl
op_named-word Kmodule = refl
op_named-word KexecImage = refl
op_named-word KexecInitramfs = refl
op_named-word Policy = refl
op_named-word X509Cert = refl

-- a token that is one of the tokens spells its action
action-at : (token : List ℕ) (x action : Action) (o : Option Action) → cond (is_text (action_token x) token) (Some x) o ≡ Some action → (o ≡ Some action → token ≡ action_token action) → token ≡ action_token action
action-at token x action o e others =
    ⊎_elim (λ h. text-is (action_token x) token h.0 ∙ ap action_token h.1) others (chosen (is_text (action_token x) token) x action o e)

-- a token that names an action is its token
pub action_named-is : (token : List ℕ) (action : Action) → action_named token ≡ Some action → token ≡ action_token action
action_named-is token action e =
    action-at token Allow action _ e λ e.
    action-at token Deny action None e λ e. absurd (cc)

-- the token of an action names it
pub action_named-token : (action : Action) → action_named (action_token action) ≡ Some action
action_named-token Allow = refl
action_named-token Deny = refl
