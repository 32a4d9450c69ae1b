use Rattle.std.proofs.Common.{◌≡◌, Result, Ok, refl, ap, ◌∙◌, arith}
use Rattle.line_words.specs.Lines.{CutsLine}
use Rattle.ipe_requests.specs.declared.known.Known.{Known}
use Rattle.ipe_requests.specs.Reading.{FirstBad, file_read}
use Rattle.ipe_requests.specs.Requests.{script_of, script_or_bad}
use Rattle.ipe_requests.proofs.Laws.{is_of_file, spelled_of}
use Rattle.ipe_requests.proofs.Pieces.{ended, refused, taken}
use Rattle.ipe_requests.proofs.reader.parse_requests.Goals as goal

pub loop-line-init : goal.loop-line-init
unfolding file_read
loop-line-init c = record {
  asks = rw c.at_first-known.ensures refl;
  few = omega (arith, ap (λ (k : Known). k.count) c.at_first-known.ensures);
}

pub loop-line-preserved : goal.loop-line-preserved
loop-line-preserved c =
    let cut : CutsLine c.loop-line.rest.now c.in-Some.line.now c.in-Some.behind.now = c.in-Some.ensures.line in
    let next = taken (file_read c.args.bytes.now) c.loop-line.known c.take.new.known c.loop-line.rest.now
    c.in-Some.line.now c.in-Some.behind.now c.in_ok-take.field-0 c.loop-line.invariant.asks cut c.in-None.is
    c.in_ok-take.ensures in
    record { asks = next.asks; few = omega (arith, next.counts, cut.shorter, c.loop-line.invariant.few) }

pub returns-in-Some-2-clause-answer : goal.returns-in-Some-2-clause-answer
returns-in-Some-2-clause-answer c =
    let cut : CutsLine c.loop-line.rest.now c.in-Some.line.now c.in-Some.behind.now = c.in-Some.ensures.line in
    ap (λ (r : Result Known FirstBad). script_or_bad r)
    (refused (file_read c.args.bytes.now) c.loop-line.known c.take.new.known c.loop-line.rest.now c.in-Some.line.now
    c.in-Some.behind.now c.in_ok-take.field-0 c.in-Some-2.kind c.loop-line.invariant.asks cut c.in-Some-2.is
    c.in_ok-take.ensures)

pub into_requests-requires-clause-file : goal.into_requests-requires-clause-file
into_requests-requires-clause-file c =
    let read : file_read c.args.bytes.now ≡ Ok c.loop-line.known =
    ended (file_read c.args.bytes.now) c.loop-line.known c.loop-line.rest.now c.last_fault.result
    c.loop-line.invariant.asks c.in_default.ensures.last c.last_fault.ensures c.in-None-last_fault.is in
    let same : script_of c.close_phase.new.self ≡ script_of c.loop-line.known =
    ap script_of c.in_ok-close_phase-in-None-last_fault.ensures in
    is_of_file c.args.bytes.now c.loop-line.known (script_of c.close_phase.new.self) read same c.requires

pub returns-in_ok-close_phase-in-None-last_fault-clause-spelled :
    goal.returns-in_ok-close_phase-in-None-last_fault-clause-spelled
returns-in_ok-close_phase-in-None-last_fault-clause-spelled c =
    let read : file_read c.args.bytes.now ≡ Ok c.loop-line.known =
    ended (file_read c.args.bytes.now) c.loop-line.known c.loop-line.rest.now c.last_fault.result
    c.loop-line.invariant.asks c.in_default.ensures.last c.last_fault.ensures c.in-None-last_fault.is in
    let same : script_of c.close_phase.new.self ≡ script_of c.loop-line.known =
    ap script_of c.in_ok-close_phase-in-None-last_fault.ensures in
    spelled_of c.args.bytes.now c.loop-line.known c.into_requests.result read (c.into_requests.ensures ∙ same)
