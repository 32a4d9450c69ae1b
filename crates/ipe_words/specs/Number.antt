-- Numbers of errors and of answers.
use Rattle.std.specs.Prelude.{ℕ}
use Rattle.ipe_words.specs.declared.errno.Errno.{Errno}
use Rattle.ipe_words.specs.declared.errno.Errno.TheVariants.{Perm, NoEnt, TooBig, Acces, Exist, Inval, FBig, NoSpc, BadMsg, Overflow, Stale, NoKey, KeyRejected}
use Rattle.ipe_words.specs.declared.status.Status.{Status}
use Rattle.ipe_words.specs.declared.status.Status.TheVariants.{Done, No, Usage, Refused, ReadFault, WriteFault, DeviceFault, NoMemory}

-- the number that Linux gives an error
abbrev pub errno_number : Errno → ℕ
errno_number Perm = 1
errno_number NoEnt = 2
errno_number TooBig = 7
errno_number Acces = 13
errno_number Exist = 17
errno_number Inval = 22
errno_number FBig = 27
errno_number NoSpc = 28
errno_number BadMsg = 74
errno_number Overflow = 75
errno_number Stale = 116
errno_number NoKey = 126
errno_number KeyRejected = 129

-- the number with which the program ends
abbrev pub status_number : Status → ℕ
status_number Done = 0
status_number No = 1
status_number Usage = 2
status_number Refused = 3
status_number ReadFault = 4
status_number WriteFault = 5
status_number DeviceFault = 6
status_number NoMemory = 7
