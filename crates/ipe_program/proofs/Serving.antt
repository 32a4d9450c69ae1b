-- What a call promises follows from how its answer was made and how it ended.
use Rattle.std.proofs.Common.{◌≡◌, ◌≢◌, ℕ, List, length, refl, sym, ap, subst, ◌∙◌, inl, inr, arith}
use Rattle.std.specs.Prelude.{false, Option, Some, None, IfSome, Result, Ok, Err, ◌⊎◌}
use Rattle.blk_device.specs.Contents.{Contents}
use Rattle.ipe_gate.specs.declared.meeting.Closed.{Closed}
use Rattle.ipe_program.specs.Answers.{Ends, IsAnswered, IsWritten, handed_out, status_of}
use Rattle.ipe_program.specs.Shell.{Failed, Handed, Out, Runs, Serves, no_gate, nothing}
use Rattle.dmv_tree.specs.Blocks.{AreBlocks, AreNoBlocks}
use Rattle.ipe_objects.specs.Loading.{first_refusal}
use Rattle.ipe_requests.specs.Requests.{Script}
use Rattle.ipe_program.specs.Table.{AreAccepted, Fits, IsTooLong, row, HasText, IsAnswer, input_for}
use Rattle.ipe_tasks.specs.Tree.{HasImage, IsRefusedFor}
use Rattle.ipe_program.specs.declared.answers.Answer.{Answer}
use Rattle.ipe_program.specs.declared.answers.Unanswered.{Unanswered}
use Rattle.ipe_program.specs.declared.answers.Unanswered.TheVariants as without
use Rattle.ipe_program.specs.declared.asked.Asked.{Asked}
use Rattle.ipe_program.specs.declared.asked.Asked.TheVariants.{Replay, Sim, Alone}
use Rattle.ipe_tasks.specs.declared.file_digest.FileTree.{FileTree}
use Rattle.ipe_tasks.specs.declared.tree.ImageTree.{ImageTree}
use Rattle.ipe_tasks.specs.declared.tree.Refusal.{Refusal}
use Rattle.ipe_tasks.specs.declared.tree.Refusal.TheVariants.{Missing, TooLarge, BadSize}
use Rattle.ipe_tasks.specs.declared.task.Task.{Task}
use Rattle.ipe_tasks.specs.declared.task.Task.TheVariants.{Lint, Measure, Tree}
use Rattle.ipe_words.specs.declared.status.Status.{Status}
use Rattle.ipe_words.specs.declared.status.Status.TheVariants as ends

-- what is so of a value in an option is so with what follows from it
weaker : {P Q : List ℕ → Type 0} (told : Option (List ℕ)) → ((input : List ℕ) → P input → Q input) → IfSome told P → IfSome told Q
weaker None follows is = tt
weaker (Some input) follows is = follows input is

-- an answer that comes with no gate stands with whatever gate was there
any_gate : (asked : Asked) (status : Status) (input : List ℕ) (held : Option Contents) (before : Option Closed) (text : List ℕ)
    → IsAnswer asked status input held None text → IsAnswer asked status input held before text
any_gate Replay ends.Done input held before text (inl long) = inl long
any_gate Replay ends.Done input held before text (inr is) = let none = is.1.transcript.handed_out in absurd (cc)
any_gate Replay ends.No input held before text is = is
any_gate Replay ends.Usage input held before text is = is
any_gate Replay ends.Refused input held before text is = is
any_gate Replay ends.ReadFault input held before text is = is
any_gate Replay ends.WriteFault input held before text is = is
any_gate Replay ends.DeviceFault input held before text is = is
any_gate Replay ends.NoMemory input held before text is = is
any_gate (Sim seed) ends.Done input held before text (inl long) = inl long
any_gate (Sim seed) ends.Done input held before text (inr is) = let none = is.1.handed_out in absurd (cc)
any_gate (Sim seed) ends.No input held before text is = is
any_gate (Sim seed) ends.Usage input held before text is = is
any_gate (Sim seed) ends.Refused input held before text is = is
any_gate (Sim seed) ends.ReadFault input held before text is = is
any_gate (Sim seed) ends.WriteFault input held before text is = is
any_gate (Sim seed) ends.DeviceFault input held before text is = is
any_gate (Sim seed) ends.NoMemory input held before text is = is
any_gate (Alone Lint) status input held before text is = is
any_gate (Alone (Measure tree)) status input held before text is = is
any_gate (Alone (Tree part tree)) status input held before text is = is

-- an answer stands with the gate that is handed out after it
stands : (asked : Asked) (status : Status) (input : List ℕ) (held : Option Contents) (own before : Option Closed) (text : List ℕ)
    → IsAnswer asked status input held own text → IsAnswer asked status input held (handed_out own before) text
stands asked status input held None before text is = any_gate asked status input held before text is
stands asked status input held (Some gate) before text is = is

-- it is so of the input where it is so of each
each : {Q : List ℕ → Type 0} (told : Option (List ℕ)) → ((input : List ℕ) → Q input) → IfSome told Q
each None is = tt
each (Some input) is = is input

same_bytes : (xs ys : List ℕ) → Some xs ≡ Some ys → xs ≡ ys
same_bytes xs ys same = cc

-- blocks aren't none
blocks_stand : (bytes size : ℕ) → AreBlocks bytes size → AreNoBlocks bytes size → ⊥
blocks_stand bytes size are (inl none) = omega (arith, are.some, none)
blocks_stand bytes size are (inr (inl rest)) = omega (arith, are.whole, rest)
blocks_stand bytes size are (inr (inr many)) = omega (arith, are.few, many)

-- a device with an image isn't refused
image_stands : (items : Contents) (tree : ImageTree) (bytes : List ℕ) → HasImage items tree bytes → (why : Refusal)
    → IsRefusedFor items tree why → ⊥
image_stands items tree bytes image Missing missing = let is = image.is in cc
image_stands items tree bytes image TooLarge large =
    let same : large.bytes ≡ bytes = same_bytes large.bytes bytes (sym large.is ∙ image.is) in
    let long : length large.bytes ≡ length bytes = ap length same in
    omega (arith, large.large, image.fits, long)
image_stands items tree bytes image BadSize bad =
    let same : bad.bytes ≡ bytes = same_bytes bad.bytes bytes (sym bad.is ∙ image.is) in
    blocks_stand (length bytes) tree.block_size image.blocks
    (subst (λ (xs : List ℕ). AreNoBlocks (length xs) tree.block_size) same bad.bad)

-- nothing that is accepted is refused
not_refused : (asked : Asked) (input : List ℕ) (held : Option Contents) (text : List ℕ) → (row asked).Accepts input held
    → (row asked).IsRefused input held text → ⊥
not_refused Replay input held text accepted (inl bad) = bad.found.none accepted.script accepted.read
not_refused Replay input None text accepted (inr refused) = accepted.loaded
not_refused Replay input (Some told) text accepted (inr refused) =
    let same : accepted.script ≡ refused.script = refused.asks.one accepted.script accepted.read in
    let first = refused.refusal.first in
    let none : first_refusal refused.script told ≡ None =
    subst (λ (script : Script). first_refusal script told ≡ None) same accepted.loaded in
    cc
not_refused (Sim seed) input held text accepted refused = refused
not_refused (Alone Lint) input held text accepted faulty = let is = faulty.faulty in let reads = accepted.1 in cc
not_refused (Alone (Measure tree)) input held text accepted refused = refused
not_refused (Alone (Tree part tree)) input None text accepted refused = accepted
not_refused (Alone (Tree part tree)) input (Some items) text accepted refused =
    image_stands items tree accepted.0 accepted.1 refused.refusal refused.why

-- what is above the limit isn't within it
not_above : (most : Option ℕ) (input text : List ℕ) → Fits most input → IsTooLong most input text → ⊥
not_above None input text fits long = long
not_above (Some most) input text fits long = omega (arith, fits, long.0)

-- an answer to what is accepted is no refusal
is_done : (asked : Asked) (status : Status) (input : List ℕ) (held : Option Contents) (own : Option Closed) (text : List ℕ)
    → HasText status → IsAnswer asked status input held own text → AreAccepted asked input held
    → (status ≡ ends.Done) ⊎ (status ≡ ends.NoMemory)
is_done asked status input held own text (inl done) is accepted = inl done
is_done asked status input held own text (inr refused) (inl long) accepted =
    absurd (not_above (row asked).most_input input text accepted.0 long.0)
is_done asked ends.Refused input held own text (inr refused) (inr is) accepted =
    absurd (not_refused asked input held text accepted.1 is.1)
is_done asked ends.Done input held own text (inr refused) (inr is) accepted = absurd (cc)
is_done asked ends.No input held own text (inr refused) (inr is) accepted = absurd (cc)
is_done asked ends.Usage input held own text (inr refused) (inr is) accepted = absurd (cc)
is_done asked ends.ReadFault input held own text (inr refused) (inr is) accepted = absurd (cc)
is_done asked ends.WriteFault input held own text (inr refused) (inr is) accepted = absurd (cc)
is_done asked ends.DeviceFault input held own text (inr refused) (inr is) accepted = absurd (cc)
is_done asked ends.NoMemory input held own text (inr refused) (inr is) accepted = absurd (cc)

-- the status of an answer is no fault, and not that of wrong usage
record IsOfAnswer (status : Status) : Type 0 where
  no_read : status ≢ ends.ReadFault
  no_device : status ≢ ends.DeviceFault
  no_write : status ≢ ends.WriteFault
  no_memory : status ≢ ends.NoMemory
  no_usage : status ≢ ends.Usage
  no_no : status ≢ ends.No

of_answer : (status : Status) → HasText status → IsOfAnswer status
of_answer status (inl done) = record {
  no_read = λ e. cc;
  no_device = λ e. cc;
  no_write = λ e. cc;
  no_memory = λ e. cc;
  no_usage = λ e. cc;
  no_no = λ e. cc;
}
of_answer status (inr refused) = record {
  no_read = λ e. cc;
  no_device = λ e. cc;
  no_write = λ e. cc;
  no_memory = λ e. cc;
  no_usage = λ e. cc;
  no_no = λ e. cc;
}

module _ {S K D : Type 0} (asked : Asked) (source : Handed S (List ℕ)) (sink : Handed K (List ℕ)) (devices : Handed D Contents) (closed : Out (Option Closed)) where
  -- nothing was unwritten of an answer
  written_some : {A : Type 0} (status : Status) → IsOfAnswer status
      → (status ≡ ends.ReadFault) ⊎ (status ≡ ends.DeviceFault) ⊎ (status ≡ ends.NoMemory) → A
  written_some status of (inl e) = absurd (of.no_read e)
  written_some status of (inr (inl e)) = absurd (of.no_device e)
  written_some status of (inr (inr e)) = absurd (of.no_memory e)

  -- a fault of the sink is none of these
  no_other_fault : {A : Type 0} → (ends.WriteFault ≡ ends.ReadFault) ⊎ (ends.WriteFault ≡ ends.DeviceFault) ⊎ (ends.WriteFault ≡ ends.NoMemory) → A
  no_other_fault (inl e) = absurd (cc)
  no_other_fault (inr (inl e)) = absurd (cc)
  no_other_fault (inr (inr e)) = absurd (cc)

  -- where an answer was written, or the sink failed in it
  written : (answer : Answer) (status : Status) → IsAnswered asked (Ok answer) source devices → IsWritten answer status sink closed
      → Serves asked status source sink devices closed
  written answer status made (inl (is, added, out)) =
      let of = of_answer answer.status made.status in
      subst (λ (s : Status). Serves asked s source sink devices closed) (sym is) (record {
        answer = λ has. weaker (input_for (row asked).most_input (source.tells source.before)) (λ input told. (
          answer.text.items,
          subst (λ (gate : Option Closed). IsAnswer asked answer.status input (devices.tells devices.before) gate answer.text.items)
              (sym out)
              (stands asked answer.status input (devices.tells devices.before) answer.closed closed.before answer.text.items told),
          added,
        )) made.answer;
        read = λ has. made.read;
        read_fault = λ e. absurd (of.no_read e);
        device_fault = λ e. absurd (of.no_device e);
        write_fault = λ e. absurd (of.no_write e);
        prefix = λ e. absurd (of.no_write e);
        unwritten = written_some answer.status of;
        complete = λ no_read no_write no_device. weaker (input_for (row asked).most_input (source.tells source.before))
            (λ input told accepted. is_done asked answer.status input (devices.tells devices.before) answer.closed answer.text.items
            made.status told accepted) made.answer;
        source_stays = made.source_stays;
        devices_stay = made.devices_stay;
        contents_stay = made.contents_stay;
        closed_stays = λ none. out ∙ ap (λ (own : Option Closed). handed_out own closed.before) (made.no_gate none);
        no_other = (of.no_usage, of.no_no);
      })
  written answer status made (inr (is, failed, some, out)) =
      subst (λ (s : Status). Serves asked s source sink devices closed) (sym is) (record {
        answer = λ has. absurd ((of_answer ends.WriteFault has).no_write refl);
        read = λ has. absurd ((of_answer ends.WriteFault has).no_write refl);
        read_fault = λ e. absurd (cc);
        device_fault = λ e. absurd (cc);
        write_fault = λ e. failed;
        prefix = λ e. weaker (input_for (row asked).most_input (source.tells source.before))
            (λ input told. (answer.status, answer.closed, answer.text.items, told, some)) made.answer;
        unwritten = no_other_fault;
        complete = λ no_read no_write no_device. absurd (no_write failed);
        source_stays = made.source_stays;
        devices_stay = made.devices_stay;
        contents_stay = made.contents_stay;
        closed_stays = λ none. out;
        no_other = ((λ e. cc), (λ e. cc));
      })

  -- where there is no answer
  without_answer : (why : Unanswered) → IsAnswered asked (Err why) source devices → sink.after ≡ sink.before
      → closed.after ≡ closed.before → Serves asked (status_of why) source sink devices closed
  without_answer without.ReadFault made kept out = record {
    answer = λ has. absurd ((of_answer ends.ReadFault has).no_read refl);
    read = λ has. absurd ((of_answer ends.ReadFault has).no_read refl);
    read_fault = λ e. made.read_fault refl;
    device_fault = λ e. absurd (cc);
    write_fault = λ e. absurd (cc);
    prefix = λ e. absurd (cc);
    unwritten = λ fault. kept;
    complete = λ no_read no_write no_device. absurd (no_read (made.read_fault refl));
    source_stays = made.source_stays;
    devices_stay = made.devices_stay;
    contents_stay = made.contents_stay;
    closed_stays = λ none. out;
    no_other = ((λ e. cc), (λ e. cc));
  }
  without_answer without.DeviceFault made kept out = record {
    answer = λ has. absurd ((of_answer ends.DeviceFault has).no_device refl);
    read = λ has. absurd ((of_answer ends.DeviceFault has).no_device refl);
    read_fault = λ e. absurd (cc);
    device_fault = λ e. made.device_fault refl;
    write_fault = λ e. absurd (cc);
    prefix = λ e. absurd (cc);
    unwritten = λ fault. kept;
    complete = λ no_read no_write no_device. absurd (no_device (made.device_fault refl));
    source_stays = made.source_stays;
    devices_stay = made.devices_stay;
    contents_stay = made.contents_stay;
    closed_stays = λ none. out;
    no_other = ((λ e. cc), (λ e. cc));
  }
  without_answer without.NoMemory made kept out = record {
    answer = λ has. absurd ((of_answer ends.NoMemory has).no_memory refl);
    read = λ has. absurd ((of_answer ends.NoMemory has).no_memory refl);
    read_fault = λ e. absurd (cc);
    device_fault = λ e. absurd (cc);
    write_fault = λ e. absurd (cc);
    prefix = λ e. absurd (cc);
    unwritten = λ fault. kept;
    complete = λ no_read no_write no_device. each (input_for (row asked).most_input (source.tells source.before))
        (λ input accepted. inr refl);
    source_stays = made.source_stays;
    devices_stay = made.devices_stay;
    contents_stay = made.contents_stay;
    closed_stays = λ none. out;
    no_other = ((λ e. cc), (λ e. cc));
  }

  -- a call serves what is asked where its answer was made for that, and it ended with this answer
  pub serves : (given : Result Answer Unanswered) (status : Status) → IsAnswered asked given source devices
      → Ends given status sink closed → Serves asked status source sink devices closed
  serves (Ok answer) status made ended = written answer status made ended
  serves (Err why) status made (is, kept, out) =
      subst (λ (s : Status). Serves asked s source sink devices closed) (sym is) (without_answer why made kept out)

-- a run that asks for something, and is out of memory before anything is read, asked or written
pub runs_out : {S K D : Type 0} (asked : Option Asked) (source : Handed S (List ℕ)) (sink : Handed K (List ℕ)) (devices : Handed D Contents)
    (closed : Out (Option Closed)) → asked ≢ None → source.after ≡ source.before → sink.after ≡ sink.before
    → devices.after ≡ devices.before → closed.after ≡ closed.before → Runs asked ends.NoMemory source sink devices closed
runs_out None source sink devices closed some unread unwritten unasked kept = absurd (some refl)
runs_out (Some asked) source sink devices closed some unread unwritten unasked kept =
    without_answer asked source sink devices closed without.NoMemory (record {
      answer = tt;
      status = tt;
      no_gate = tt;
      read = tt;
      read_fault = λ e. absurd (cc);
      device_fault = λ e. absurd (cc);
      source_stays = λ none. unread;
      devices_stay = λ none. unasked;
      contents_stay = ap devices.tells unasked;
    }) unwritten kept

-- no gate runs for a task
no_gate_runs : (task : Task) → (row (Alone task)).runs_gate ≡ false
no_gate_runs Lint = refl
no_gate_runs (Measure tree) = refl
no_gate_runs (Tree part tree) = refl

-- so where no gate was there before a task, none is there after it
pub serves_alone : {S K D : Type 0} (task : Task) (source : Handed S (List ℕ)) (sink : Handed K (List ℕ)) (devices : Handed D Contents)
    (after : Option Closed) (given : Result Answer Unanswered) (status : Status) → IsAnswered (Alone task) given source devices
    → Ends given status sink (record { before = None; after = after }) → Serves (Alone task) status source sink devices no_gate
serves_alone task source sink devices after given status made ended =
    let served = serves (Alone task) source sink devices (record { before = None; after = after }) given status made ended in
    subst (λ (gate : Option Closed). Serves (Alone task) status source sink devices (record { before = None; after = gate }))
    (served.closed_stays (λ done. no_gate_runs task)) served

-- no device is asked when a file is measured, so those that were handed in may be left out
pub measured : {S K D : Type 0} (tree : FileTree) (task : Task) (status : Status) (source : Handed S (List ℕ)) (sink : Handed K (List ℕ))
    (devices : Handed D Contents) → task ≡ Measure tree → (Failed devices → Failed (nothing {T = Contents}))
    → Serves (Alone task) status source sink devices no_gate → Serves (Alone (Measure tree)) status source sink nothing no_gate
measured tree task status source sink devices is fails serves =
    let served = subst (λ (task : Task). Serves (Alone task) status source sink devices no_gate) is serves in record {
      answer = served.answer;
      read = served.read;
      read_fault = served.read_fault;
      device_fault = λ e. fails (served.device_fault e);
      write_fault = served.write_fault;
      prefix = served.prefix;
      unwritten = served.unwritten;
      complete = λ no_read no_write no_device. served.complete no_read no_write (λ failed. no_device (fails failed));
      source_stays = served.source_stays;
      devices_stay = λ none. refl;
      contents_stay = refl;
      closed_stays = served.closed_stays;
      no_other = served.no_other;
    }
