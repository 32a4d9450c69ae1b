use Rattle.std.proofs.Common.{◌≡◌, ◌∙◌, ◌+◌, ◌≤◌, ℕ, length, ap, arith, length-append}
use Rattle.std.specs.Prelude.{nat_le}
use borrow.Author.Tests.{leb-true}
use Rattle.std.proofs.lemmas.Bool.{and_parts}
use Rattle.ipe_policy.specs.Spelling.{words_for}
use Rattle.ipe_image.specs.Packing.{byte_words}
use Rattle.ipe_image.proofs.Bytes.{length-packed_words}
use Rattle.ipe_image.proofs.record.append_digest.Goals as goal

pub append_bytes-requires-2 : goal.append_bytes-requires-2
append_bytes-requires-2 c =
    let alg : length c.args.digest.now.alg ≤ 16 =
    leb-true (length c.args.digest.now.alg) 16 (and_parts (nat_le 1 (length c.args.digest.now.alg)) (nat_le
    (length c.args.digest.now.alg) 16) (and_parts _ _ c.as_slice-alg.ensures.rule).0).1 in
    let bytes : length c.args.digest.now.bytes ≤ 64 =
    leb-true (length c.args.digest.now.bytes) 64 c.as_slice-bytes.ensures.rule in
    let alg_len : length c.as_slice-alg.result.now ≡ length c.args.digest.now.alg =
    ap length c.as_slice-alg.ensures.bytes in
    let bytes_len : length c.as_slice-bytes.result.now ≡ length c.args.digest.now.bytes =
    ap length c.as_slice-bytes.ensures.bytes in
    let first : length c.append_bytes.new.words.items ≡ length c.push.new.self.items + words_for
    (length c.as_slice-alg.result.now) =
    ap length c.append_bytes.ensures.words
    ∙ length-append c.push.new.self.items (byte_words c.as_slice-alg.result.now)
    ∙ ap (λ (n : ℕ). length c.push.new.self.items + n) (length-packed_words (words_for
    (length c.as_slice-alg.result.now)) c.as_slice-alg.result.now) in
    omega arith

pub returns-clause-few : goal.returns-clause-few
returns-clause-few c =
    let alg : length c.args.digest.now.alg ≤ 16 =
    leb-true (length c.args.digest.now.alg) 16 (and_parts (nat_le 1 (length c.args.digest.now.alg)) (nat_le
    (length c.args.digest.now.alg) 16) (and_parts _ _ c.as_slice-alg.ensures.rule).0).1 in
    let bytes : length c.args.digest.now.bytes ≤ 64 =
    leb-true (length c.args.digest.now.bytes) 64 c.as_slice-bytes.ensures.rule in
    omega arith
