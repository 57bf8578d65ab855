-- Texts that lie one behind the other.
use Rattle.std.proofs.Common.{◌≡◌, ℕ, ◌+◌, ◌-◌, ◌<◌, List, [], ◌∷◌, ◌++◌, length, refl, sym, ap, ◌∙◌, subst, arith}
use Rattle.std.proofs.Common.{map, take, drop, get_or, append_assoc}
use Rattle.std.specs.Prelude.{Some, codes, flat_map}
use Rattle.std.proofs.Math.Seq.{drop-append_seam}
use Rattle.std.proofs.lemmas.List.{length-append, length-drop, map_push}
use Rattle.std.proofs.lemmas.List.{drop-append-le, take-append-le, take_all, take_more}
use Rattle.std.proofs.lemmas.List.Folds.{flat_map-map}
use Rattle.std.proofs.lemmas.List.Elements.{All-head, All-tail, All-push, All-weaker}
use Rattle.hls_text.specs.Lines.{Text}
use Rattle.hls_report_text.specs.declared.report.Path.{Path}
use Rattle.hls_report_text.specs.Content.{path_names}
use Rattle.hls_core_journal.specs.declared.tails.Part.{Part}
use Rattle.hls_core_journal.specs.Inside.Tails.{text_at, texts_by, IsPart, AreParts}
use Rattle.hls_core_journal.specs.Schedule.{tail_text}

-- ---- one text more

same_text : (bytes text : List ℕ) (part : Part) → IsPart (length bytes) part
    → text_at (bytes ++ text) part ≡ text_at bytes part
same_text bytes text part is =
    let rising = is.rising in
    let within = is.within in
    let left = length-drop part.from bytes in
    ap (λ t. take (part.to - part.from) t) (drop-append-le part.from bytes text (omega (arith, rising, within)))
    ∙ take-append-le (part.to - part.from) (drop part.from bytes) text (omega (arith, left, rising, within))

same_texts : (bytes text : List ℕ) (parts : List Part) → AreParts bytes parts
    → texts_by (bytes ++ text) parts ≡ texts_by bytes parts
same_texts bytes text [] all = refl
same_texts bytes text (part ∷ parts) all =
    let P = λ (p : Part). IsPart (length bytes) p in
    ap (λ (t : Text). t ∷ texts_by (bytes ++ text) parts) (same_text bytes text part (All-head P part parts all))
    ∙ ap (λ (ts : List Text). text_at bytes part ∷ ts) (same_texts bytes text parts (All-tail P part parts all))

abbrev part : (from to : ℕ) → Part
part from to = record { from = from; to = to }

last_text : (bytes text : List ℕ) → text_at (bytes ++ text) (part (length bytes) (length (bytes ++ text))) ≡ text
last_text bytes text =
    let long = length-append bytes text in
    ap (λ t. take (length (bytes ++ text) - length bytes) t) (drop-append_seam bytes text)
    ∙ take_all (length (bytes ++ text) - length bytes) text (omega (arith, long))

pub more_texts : (bytes text : List ℕ) (parts : List Part) → AreParts bytes parts
    → texts_by (bytes ++ text) (parts ++ part (length bytes) (length (bytes ++ text)) ∷ [])
    ≡ texts_by bytes parts ++ text ∷ []
more_texts bytes text parts all =
    map_push (text_at (bytes ++ text)) parts (part (length bytes) (length (bytes ++ text)))
    ∙ ap (λ (ts : List Text). ts ++ text_at (bytes ++ text) (part (length bytes) (length (bytes ++ text))) ∷ [])
    (same_texts bytes text parts all)
    ∙ ap (λ (t : Text). texts_by bytes parts ++ t ∷ []) (last_text bytes text)

pub more_parts : (bytes text : List ℕ) (parts : List Part) → AreParts bytes parts
    → AreParts (bytes ++ text) (parts ++ part (length bytes) (length (bytes ++ text)) ∷ [])
more_parts bytes text parts all =
    let long = length-append bytes text in
    All-push (λ (p : Part). IsPart (length (bytes ++ text)) p) parts (part (length bytes) (length (bytes ++ text)))
    (All-weaker (λ (p : Part). IsPart (length bytes) p) (λ (p : Part). IsPart (length (bytes ++ text)) p)
    (λ p is. record {
      rising = is.rising;
      within = (let within = is.within in omega (arith, within, long));
    })
    parts all)
    (record { rising = omega (arith, long); within = omega arith })

-- the texts so far, and that they lie in the bytes
pub record AreTexts (bytes : List ℕ) (parts : List Part) (texts : List Text) : Type 0 where
  pub within : AreParts bytes parts
  pub same : texts_by bytes parts ≡ texts

pub texts_more : (bytes new text : List ℕ) (parts next : List Part) (texts : List Text) (from to : ℕ)
    → AreTexts bytes parts texts → new ≡ bytes ++ text → from ≡ length bytes → to ≡ length new
    → next ≡ parts ++ part from to ∷ [] → AreTexts new next (texts ++ text ∷ [])
texts_more bytes new text parts next texts from to are grown begins ends push =
    let ending : to ≡ length (bytes ++ text) = ends ∙ ap (λ (t : List ℕ). length t) grown in
    let pushed : next ≡ parts ++ part (length bytes) (length (bytes ++ text)) ∷ [] =
    push ∙ (λ i. parts ++ part (begins i) (ending i) ∷ []) in
    subst (λ (l : List Part). AreTexts new l (texts ++ text ∷ [])) (sym pushed)
    (subst (λ t. AreTexts t (parts ++ part (length bytes) (length (bytes ++ text)) ∷ []) (texts ++ text ∷ []))
    (sym grown)
    (record {
      within = more_parts bytes text parts are.within;
      same = more_texts bytes text parts are.within ∙ ap (λ (ts : List Text). ts ++ text ∷ []) are.same;
    }))

-- one path more
pub texts_step : {A : Type 0} (f : A → Text) (ways : List A) (at : ℕ) (d : A) (bytes new : List ℕ)
    (parts next : List Part) (from to : ℕ) → AreTexts bytes parts (map f (take at ways)) → at < length ways
    → new ≡ bytes ++ f (get_or ways at d)
    → from ≡ length bytes → to ≡ length new → next ≡ parts ++ part from to ∷ []
    → AreTexts new next (map f (take (at + 1) ways))
texts_step f ways at d bytes new parts next from to are lt grown begins ends push =
    subst (λ (ts : List Text). AreTexts new next ts)
    (sym (ap (map f) (take_more ways at d lt) ∙ map_push f (take at ways) (get_or ways at d)))
    (texts_more bytes new (f (get_or ways at d)) parts next (map f (take at ways)) from to are grown begins ends push)

-- ---- the text of a path

pub tail_spelled : (out first mid : List ℕ) (names : List Text) (path : Path) (places : List ℕ)
    → first ≡ out ++ codes " cpu" → places ≡ take path.len path.names
    → mid ≡ first ++ flat_map (λ place. codes "/" ++ get_or names place []) places
    → mid ++ codes "\n" ≡ out ++ tail_text names (Some path)
tail_spelled out first mid names path places begun are went =
    let named = flat_map (λ (name : Text). codes "/" ++ name) (path_names names path) in
    let slashed : ℕ → Text = λ place. codes "/" ++ get_or names place [] in
    let same : flat_map slashed places ≡ named =
    ap (λ ps. flat_map slashed ps) are
    ∙ sym (flat_map-map (λ (name : Text). codes "/" ++ name) (λ place. get_or names place [])
    (take path.len path.names)) in
    let whole : mid ≡ out ++ (codes " cpu" ++ named) =
    went ∙ ap (λ t. t ++ flat_map slashed places) begun ∙ ap (λ t. (out ++ codes " cpu") ++ t) same
    ∙ append_assoc out (codes " cpu") named in
    ap (λ t. t ++ codes "\n") whole ∙ append_assoc out (codes " cpu" ++ named) (codes "\n")
