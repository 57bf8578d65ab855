use Rattle.std.proofs.Common.{◌≡◌, ℕ, ◌+◌, List, [], ◌∷◌, ◌++◌, Bool, true}
use Rattle.std.proofs.Common.{false, take, map, filter, sym, ap, ◌∙◌, subst}
use Rattle.std.proofs.Common.{refl, append-nil}
use Rattle.std.specs.Prelude.{All, Some, cond, slice_get}
use Rattle.std.proofs.lemmas.List.{take_more}
use Rattle.std.proofs.lemmas.List.Elements.{All-nil, All-cons, All-append}
use Rattle.std.proofs.lemmas.Option.{slice_get_within, get_or_from_slice_get}
use Rattle.hls_text.specs.Lines.{Text}
use Rattle.hls_guarantee.specs.Limits.{IsValid}
use Rattle.hls_report_text.specs.declared.report.Answered.{Answered}
use Rattle.hls_report_text.specs.Content.{content_of}
use Rattle.hls_legal.specs.declared.stay.Stay.{Stay}
use Rattle.hls_audit_stays.specs.Found.{stay_by}
use Rattle.hls_audit_stays.proofs.Lists.{filter_append}
use Rattle.hls_audit_threads.proofs.EachStay.{told_at, kept_valid}
use Rattle.hls_view_jobs.specs.Jobs.{is_of}
use Rattle.hls_view_jobs.proofs.sources.stays_named.Goals.{then-eq+in_ok-push, else-eq}
use Rattle.hls_view_jobs.proofs.sources.stays_named.Goals as goal

-- one stay more
stays_more : (name : Text) (all : List Stay) (i : ℕ) (s : Stay) (named : Bool) → slice_get all i ≡ Some s
    → is_of name s ≡ named
    → filter (is_of name) (take (i + 1) all) ≡ filter (is_of name) (take i all) ++ cond named (s ∷ []) []
stays_more name all i s named there is =
    ap (filter (is_of name)) (take_more all i s (slice_get_within all i s there)
    ∙ ap (λ (x : Stay). take i all ++ x ∷ []) (get_or_from_slice_get all i s s there))
    ∙ filter_append (is_of name) (take i all) (s ∷ []) ∙ rw is refl

pub loop-found-preserved : goal.loop-found-preserved
loop-found-preserved c =
    let r = c.args.report.now in
    let found = c.found-item.result in
    let all = map (stay_by r.answered) c.args.stays.now in
    let i = c.loop-found.found-index in
    let name = c.args.name.now in
    let stay = stay_by r.answered found in
    let there : slice_get all i ≡ Some stay =
    told_at r.answered c.args.stays.now i found stay c.loop-found-test.true c.found-item.is refl in
    let valid : IsValid stay.kept =
    kept_valid (content_of r) all i stay c.requires.formed.content c.requires.stays there in
    elim c.if-eq.branch [
      | then-eq+in_ok-push w ↦
          let named : is_of name stay ≡ true = sym c.eq.ensures ∙ w.if-eq.true in
          let put : c.if-eq.named.items ≡ c.loop-found.named.items ++ stay ∷ [] = ap (λ v. v.items) w.named-is
          ∙ w.in_ok-push.ensures.items ∙ ap (λ (s : Stay). c.loop-found.named.items ++ s ∷ []) (w.stay.ensures
          ∙ ap (λ (l : List Answered). stay_by l found) w.items.ensures) in
          record {
            named = put ∙ ap (λ (l : List Stay). l ++ stay ∷ []) c.loop-found.invariant.named
                ∙ sym (stays_more name all i stay true there named);
            valid = subst (All (λ (s : Stay). IsValid s.kept)) (sym put)
                (All-append (λ (s : Stay). IsValid s.kept) c.loop-found.named.items (stay ∷ [])
                c.loop-found.invariant.valid
                (All-cons (λ (s : Stay). IsValid s.kept) stay [] valid (All-nil (λ (s : Stay). IsValid s.kept))));
          }
      | else-eq w ↦
          let other : is_of name stay ≡ false = sym c.eq.ensures ∙ w.if-eq.false in
          let put : c.if-eq.named.items ≡ c.loop-found.named.items = ap (λ v. v.items) w.named-is in
          record {
            named = put ∙ c.loop-found.invariant.named
                ∙ sym (stays_more name all i stay false there other ∙ append-nil _);
            valid = subst (All (λ (s : Stay). IsValid s.kept)) (sym put) c.loop-found.invariant.valid;
          }
    ]
