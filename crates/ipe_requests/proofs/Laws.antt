-- Bytes are requests or have a first bad line.
use Rattle.std.proofs.Common.{◌≡◌, inl, inr, ◌⊎◌, ℕ, ◌≤◌, List, [], ◌∷◌, ◌++◌, length, Result, Ok, Err, refl, sym, ap, ◌∙◌, subst, arith}
use Rattle.std.specs.List.{concat}
use Rattle.std.proofs.lemmas.List.{append_assoc, append-nil}
use Rattle.ipe_requests.specs.declared.known.Known.{Known}
use Rattle.ipe_requests.specs.Reading.{FirstBad, file_read}
use Rattle.ipe_requests.specs.Requests.{Script, requests_of, script_of, script_or_bad}
use Rattle.ipe_requests.specs.Spelling.{request_text}
use Rattle.ipe_requests.specs.Law.{AreRequests, HaveFirstBad, IsOfFile, RequestsOrFirstBad}
use Rattle.ipe_requests.proofs.Files.{file-spelled}

ok-one : (a b : Script) (r : Result Script FirstBad) → r ≡ Ok a → r ≡ Ok b → b ≡ a
ok-one a b (Ok c) first second = cc
ok-one a b (Err c) first second = absurd (cc)

bad-one : (a b : FirstBad) (r : Result Script FirstBad) → r ≡ Err a → r ≡ Err b → b ≡ a
bad-one a b (Ok c) first second = absurd (cc)
bad-one a b (Err c) first second = cc

not-both : (a : Script) (b : FirstBad) (r : Result Script FirstBad) → r ≡ Ok a → r ≡ Err b → ⊥
not-both a b (Ok c) first second = cc
not-both a b (Err c) first second = cc

pub requests_or_first_bad : RequestsOrFirstBad
requests_or_first_bad bytes = cases (file_read bytes) refl
  where
    cases : (r : Result Known FirstBad) → file_read bytes ≡ r
        → ((script : Script) × AreRequests bytes script) ⊎ ((bad : FirstBad) × HaveFirstBad bytes bad)
    cases (Ok known) is =
        let read : requests_of bytes ≡ Ok (script_of known) = ap script_or_bad is in
        inl (
          script_of known,
          record {
            read = read;
            one = λ other e. ok-one (script_of known) other (requests_of bytes) read e;
            good = λ bad e. not-both (script_of known) bad (requests_of bytes) read e;
            spelled = file-spelled bytes known is;
          },
        )
    cases (Err bad) is =
        let found : requests_of bytes ≡ Err bad = ap script_or_bad is in
        inr (
          bad,
          record {
            found = found;
            one = λ other e. bad-one bad other (requests_of bytes) found e;
            none = λ script e. not-both script bad (requests_of bytes) e found;
          },
        )

-- what a file that is read comes to is that of a file
pub is_of_file : (bytes : List ℕ) (known : Known) (script : Script) → file_read bytes ≡ Ok known
    → script ≡ script_of known → length bytes ≤ 16777216 → IsOfFile script
is_of_file bytes known script is same few =
    let spelled : request_text (script_of known) ≡ bytes = file-spelled bytes known is in
    subst (λ (s : Script). IsOfFile s) (sym same) (record {
      read = ap requests_of spelled ∙ ap script_or_bad is;
      few = omega (arith, ap length spelled, few);
    })

-- and its spelling is the file
pub spelled_of : (bytes : List ℕ) (known : Known) (script : Script) → file_read bytes ≡ Ok known
    → script ≡ script_of known → request_text script ≡ bytes
spelled_of bytes known script is same = ap request_text same ∙ file-spelled bytes known is

-- lists that are appended one after another
abbrev pub onto : List ℕ → List (List ℕ) → List ℕ
onto front [] = front
onto front (part ∷ parts) = onto (front ++ part) parts

pub onto-concat : (front : List ℕ) (parts : List (List ℕ)) → onto front parts ≡ front ++ concat parts
onto-concat front [] = sym (append-nil front)
onto-concat front (part ∷ parts) = onto-concat (front ++ part) parts ∙ append_assoc front part (concat parts)
