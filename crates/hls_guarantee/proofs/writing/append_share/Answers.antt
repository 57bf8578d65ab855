use Rattle.std.proofs.Common.{◌≡◌, ℕ, List, ◌++◌, codes, ◌∙◌, ap, append_assoc}
use Rattle.std.proofs.lemmas.Result.{on_err_weaker}
use Rattle.hls_guarantee.specs.Spelling.{fraction_text}
use Rattle.hls_text.proofs.FirstMarks.{begins_still}
use Rattle.hls_guarantee.proofs.writing.append_share.Goals as goal

pub returns-clause-err : goal.returns-clause-err
returns-clause-err c =
    let out : List ℕ = c.args.out.now.items in
    let word : List ℕ = codes "PSBE " in
    let s : List ℕ = fraction_text c.args.s.now in
    let joined : ((out ++ word) ++ s) ++ codes " " ≡ out ++ (word ++ (s ++ codes " ")) = simp append_assoc in
    let first = c.in_ok-extend_from_slice.ensures.items in
    let second = c.in_ok-append_fraction.ensures.ok in
    let third = c.in_ok-extend_from_slice-2.ensures.items in
    let middle : c.extend_from_slice-2.new.self.items ≡ out ++ (word ++ (s ++ codes " ")) =
    third ∙ ap (λ l. l ++ codes " ") (second ∙ ap (λ l. l ++ s) first) ∙ joined in
    on_err_weaker c.append_fraction-2.result
    (λ begins. begins_still out (word ++ (s ++ codes " ")) c.extend_from_slice-2.new.self.items
    c.append_fraction-2.new.out.items middle begins)
    c.append_fraction-2.ensures.err
