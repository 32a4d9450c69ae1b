-- The numbers of refusals, and the accepted words for a truth value.
use Rattle.std.specs.Prelude.{ℕ, ◌||◌, ◌++◌, Bool, codes, List, [], ◌∷◌, if◌then◌else◌}
use Rattle.std.specs.List.{list_any}
use Rattle.line_words.specs.Words.{is_text}
use Rattle.ipe_words.specs.declared.errno.Errno as errno
use Rattle.ipe_machine.specs.declared.answer.Refusal.{Refusal}
use Rattle.ipe_machine.specs.declared.answer.Refusal.TheVariants.{NotPermitted, TooBig, Rejected, NoKey, BadPolicy, TooWide, Exists, NoSpace, NoEntry, Direction, OtherName, Stale, EpochFull, BadValue, IsActive}
use Rattle.ipe_machine.specs.declared.command.Value.{Value}
use Rattle.ipe_machine.specs.declared.command.Value.TheVariants as value

-- the error number of a refusal
abbrev pub errno_of : Refusal → errno.Errno
errno_of NotPermitted = errno.TheVariants.Perm
errno_of TooBig = errno.TheVariants.TooBig
errno_of Rejected = errno.TheVariants.KeyRejected
errno_of NoKey = errno.TheVariants.NoKey
errno_of (BadPolicy fault) = errno.TheVariants.BadMsg
errno_of (TooWide words) = errno.TheVariants.FBig
errno_of Exists = errno.TheVariants.Exist
errno_of NoSpace = errno.TheVariants.NoSpc
errno_of NoEntry = errno.TheVariants.NoEnt
errno_of Direction = errno.TheVariants.Inval
errno_of OtherName = errno.TheVariants.Inval
errno_of (Stale present offered) = errno.TheVariants.Stale
errno_of EpochFull = errno.TheVariants.Overflow
errno_of BadValue = errno.TheVariants.Inval
errno_of IsActive = errno.TheVariants.Perm

-- the bytes are one of these words, with or without one line feed after it
abbrev pub is_one_of : List (List ℕ) → List ℕ → Bool
is_one_of words bytes = list_any (λ word. is_text word bytes || is_text (word ++ 10 ∷ []) bytes) words

-- the truth value that bytes say
abbrev pub value_of : List ℕ → Value
value_of bytes =
    if is_one_of (codes "1" ∷ codes "y" ∷ codes "Y" ∷ codes "on" ∷ []) bytes then value.True
    else if is_one_of (codes "0" ∷ codes "n" ∷ codes "N" ∷ codes "off" ∷ []) bytes then value.False
    else value.Bad
