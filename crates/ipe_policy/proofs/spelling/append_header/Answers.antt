use Rattle.std.proofs.Common.{◌≡◌, List, ℕ, ◌++◌, codes, append_assoc, subst}
use Rattle.std.specs.Prelude.{OnOk}
use Rattle.ipe_policy.specs.Spelling.{header_text, version_text}
use Rattle.ipe_policy.proofs.spelling.append_header.Goals as goal

-- four parts put after a text one after another
append-parts : (old a b c d : List ℕ) → (((old ++ a) ++ b) ++ c) ++ d ≡ old ++ (((a ++ b) ++ c) ++ d)
append-parts old a b c d = simp append_assoc

pub returns : goal.returns
returns c =
    let old = c.args.text.now.items in
    let key : c.extend_from_slice.new.self.items ≡ old ++ codes "policy_name=" = c.in_ok-extend_from_slice.ensures.items in
    let name : c.extend_from_slice-2.new.self.items ≡ c.extend_from_slice.new.self.items ++ c.args.name.now = cc (c.in_ok-extend_from_slice-2.ensures.items) in
    let next : c.extend_from_slice-3.new.self.items ≡ c.extend_from_slice-2.new.self.items ++ codes " policy_version=" = c.in_ok-extend_from_slice-3.ensures.items in
    let parts = append-parts old (codes "policy_name=") c.args.name.now (codes " policy_version=") (version_text c.args.version) in
    let whole : c.extend_from_slice-3.new.self.items ++ version_text c.args.version ≡ old ++ header_text c.args.name.now c.args.version = rw (next, name, key) parts in
    let P : List ℕ → Type 0 = λ text. OnOk c.append_version.result (c.append_version.new.text.items ≡ text) in
    subst P whole c.append_version.ensures
