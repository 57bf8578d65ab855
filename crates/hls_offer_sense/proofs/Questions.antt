-- Words ask one question: their first word tells which, and the readers of terms and guarantees tell where it ends.
use Rattle.std.proofs.Common.{◌≡◌, ◌≤◌, List, [], ◌∷◌, ◌++◌, refl, sym, ap, ◌∙◌, arith, codes, subst}
use Rattle.std.specs.Prelude.{Option, Some, None, Ok, map}
use Rattle.hls_text.specs.Lines.{Text}
use Rattle.hls_chron.specs.declared.plain.Terms.{Terms}
use Rattle.hls_guarantee.specs.declared.Guarantee.{Guarantee}
use Rattle.hls_scenario.specs.Forms.{Form, the, terms_forms, guarantee_forms}
use Rattle.hls_scenario.specs.Grammar.{IsLine}
use Rattle.hls_lang.specs.Words.{Found}
use Rattle.hls_lang.proofs.Fronts.{Front, front_split, line_of_front, front_of_line}
use Rattle.hls_lang.proofs.SeatLaws.{terms_next, guarantee_next}
use Rattle.hls_offer_words.specs.Table.{place_forms, question_forms, IsQuestion, tail_words, asked_forms, most_period}
use Rattle.hls_offer_words.specs.Table.{IsAsked}
use Rattle.hls_offer_words.specs.declared.asked.Question.{Question}
use Rattle.hls_offer_words.specs.declared.asked.Question.TheVariants.{Offer, Need, Spare}
use Rattle.hls_offer_words.specs.declared.asked.Asked.{Asked}
use Rattle.hls_offer_sense.proofs.Moments.{apart, one_tail, one_moment, tail_no_on}

-- ---- words that begin with the words of two lists of forms

record AreBoth (x y : Text) (fs gs : List Form) (m n : List Text) : Type 0 where
  pub word : x ≡ y
  pub more : List Text
  pub one : Front fs more m
  pub two : Front gs more n

both_words : (x y : Text) (fs gs : List Form) (all m n : List Text) → Front (the x ∷ fs) all m
    → Front (the y ∷ gs) all n → AreBoth x y fs gs m n
both_words x y fs gs [] m n f t = absurd f
both_words x y fs gs (w ∷ more) m n f t = record { word = sym f.0 ∙ t.0; more = more; one = f.1; two = t.1 }

abbrev found : {A : Type 0} → A × List Text → Found A
found p = Ok p

same_found : {A : Type 0} (p q : A × List Text) → found p ≡ found q → p ≡ q
same_found p q e = cc

-- ---- one question, and the words behind it

abbrev NoOn : List Text → Type 0
NoOn words = (more : List Text) → words ≡ codes "on" ∷ more → ⊥

record IsOne (p q : Question) (m n : List Text) : Type 0 where
  pub question : p ≡ q
  pub rest : m ≡ n

offers_one : (name on other there : Text) (t u : Terms) (all m n : List Text) → IsQuestion (Offer name on t)
    → IsQuestion (Offer other there u) → Front (question_forms (Offer name on t)) all m
    → Front (question_forms (Offer other there u)) all n → IsOne (Offer name on t) (Offer other there u) m n
offers_one name on other there t u all m n is its f g =
    let a = both_words (codes "offer") (codes "offer") (the name ∷ the (codes "on") ∷ the on ∷ terms_forms t)
    (the other ∷ the (codes "on") ∷ the there ∷ terms_forms u) all m n f g in
    let b = both_words name other (the (codes "on") ∷ the on ∷ terms_forms t)
    (the (codes "on") ∷ the there ∷ terms_forms u) a.more m n a.one a.two in
    let c = both_words (codes "on") (codes "on") (the on ∷ terms_forms t) (the there ∷ terms_forms u) b.more m n b.one
    b.two in
    let d = both_words on there (terms_forms t) (terms_forms u) c.more m n c.one c.two in
    let e = same_found (t, m) (u, n)
    (sym (terms_next t d.more m is.2 d.one) ∙ terms_next u d.more n its.2 d.two) in
    record {
      question = ap (λ (x : Text). Offer x on t) b.word ∙ ap (λ (x : Text). Offer other x t) d.word
          ∙ ap (λ (x : Terms × List Text). Offer other there x.0) e;
      rest = ap (λ (x : Terms × List Text). x.1) e;
    }

record ArePlaces (one two : Option Text) (m n : List Text) : Type 0 where
  pub place : one ≡ two
  pub rest : m ≡ n

places_one : (one two : Option Text) (all m n : List Text) → Front (place_forms one) all m
    → Front (place_forms two) all n → NoOn m → NoOn n → ArePlaces one two m n
places_one None None all m n f g bar end = record { place = refl; rest = sym f ∙ g }
places_one None (Some on) [] m n f g bar end = absurd g
places_one None (Some on) (w ∷ all) m n f g bar end =
    absurd (bar all (sym f ∙ ap (λ (x : Text). x ∷ all) g.0))
places_one (Some on) None [] m n f g bar end = absurd f
places_one (Some on) None (w ∷ all) m n f g bar end =
    absurd (end all (sym g ∙ ap (λ (x : Text). x ∷ all) f.0))
places_one (Some on) (Some there) all m n f g bar end =
    let a = both_words (codes "on") (codes "on") (the on ∷ []) (the there ∷ []) all m n f g in
    let b = both_words on there [] [] a.more m n a.one a.two in
    record { place = ap (λ (x : Text). Some x) b.word; rest = sym b.one ∙ b.two }

needs_one : (name other : Text) (g h : Guarantee) (on there : Option Text) (all m n : List Text)
    → IsQuestion (Need name g on) → IsQuestion (Need other h there) → Front (question_forms (Need name g on)) all m
    → Front (question_forms (Need other h there)) all n → NoOn m → NoOn n
    → IsOne (Need name g on) (Need other h there) m n
needs_one name other g h on there all m n is its f t bar end =
    let a = both_words (codes "need") (codes "need")
    (the name ∷ the (codes "as") ∷ (guarantee_forms g ++ place_forms on))
    (the other ∷ the (codes "as") ∷ (guarantee_forms h ++ place_forms there)) all m n f t in
    let b = both_words name other (the (codes "as") ∷ (guarantee_forms g ++ place_forms on))
    (the (codes "as") ∷ (guarantee_forms h ++ place_forms there)) a.more m n a.one a.two in
    let c = both_words (codes "as") (codes "as") (guarantee_forms g ++ place_forms on)
    (guarantee_forms h ++ place_forms there) b.more m n b.one b.two in
    let one = front_split (guarantee_forms g) (place_forms on) c.more m c.one in
    let two = front_split (guarantee_forms h) (place_forms there) c.more n c.two in
    let e = same_found (g, one.0) (h, two.0)
    (sym (guarantee_next g c.more one.0 is.1 one.1) ∙ guarantee_next h c.more two.0 its.1 two.1) in
    let place = places_one on there one.0 m n one.2
    (subst (λ (ws : List Text). Front (place_forms there) ws n) (sym (ap (λ (x : Guarantee × List Text). x.1) e)) two.2)
    bar end in
    record {
      question = ap (λ (x : Text). Need x g on) b.word
          ∙ ap (λ (x : Guarantee × List Text). Need other x.0 on) e
          ∙ ap (λ (x : Option Text). Need other h x) place.place;
      rest = place.rest;
    }

unlike : (x y : Text) (fs gs : List Form) (all m n : List Text) → (x ≡ y → ⊥) → Front (the x ∷ fs) all m
    → Front (the y ∷ gs) all n → ⊥
unlike x y fs gs all m n differ f t = differ (both_words x y fs gs all m n f t).word

no_need : codes "offer" ≡ codes "need" → ⊥
no_need = apart 111 110 (codes "ffer") (codes "eed") (λ (n : 111 ≡ 110). omega (arith, n))

no_spare : codes "offer" ≡ codes "spare" → ⊥
no_spare = apart 111 115 (codes "ffer") (codes "pare") (λ (n : 111 ≡ 115). omega (arith, n))

need_spare : codes "need" ≡ codes "spare" → ⊥
need_spare = apart 110 115 (codes "eed") (codes "pare") (λ (n : 110 ≡ 115). omega (arith, n))

one_question : (p q : Question) (all m n : List Text) → IsQuestion p → IsQuestion q → Front (question_forms p) all m
    → Front (question_forms q) all n → NoOn m → NoOn n → IsOne p q m n
one_question (Offer name on t) (Offer other there u) all m n is its f g bar end =
    offers_one name on other there t u all m n is its f g
one_question (Need name g on) (Need other h there) all m n is its f t bar end =
    needs_one name other g h on there all m n is its f t bar end
one_question Spare Spare all m n is its f g bar end =
    let both = both_words (codes "spare") (codes "spare") [] [] all m n f g in
    record { question = refl; rest = sym both.one ∙ both.two }
one_question (Offer name on t) (Need other h there) all m n is its f g bar end =
    absurd (unlike (codes "offer") (codes "need") (the name ∷ the (codes "on") ∷ the on ∷ terms_forms t)
    (the other ∷ the (codes "as") ∷ (guarantee_forms h ++ place_forms there)) all m n no_need f g)
one_question (Offer name on t) Spare all m n is its f g bar end =
    absurd (unlike (codes "offer") (codes "spare") (the name ∷ the (codes "on") ∷ the on ∷ terms_forms t) [] all m n
    no_spare f g)
one_question (Need name g on) (Offer other there u) all m n is its f t bar end =
    absurd (unlike (codes "offer") (codes "need") (the other ∷ the (codes "on") ∷ the there ∷ terms_forms u)
    (the name ∷ the (codes "as") ∷ (guarantee_forms g ++ place_forms on)) all n m no_need t f)
one_question (Need name g on) Spare all m n is its f t bar end =
    absurd (unlike (codes "need") (codes "spare")
    (the name ∷ the (codes "as") ∷ (guarantee_forms g ++ place_forms on)) [] all m n need_spare f t)
one_question Spare (Offer other there u) all m n is its f g bar end =
    absurd (unlike (codes "offer") (codes "spare") (the other ∷ the (codes "on") ∷ the there ∷ terms_forms u) [] all n
    m no_spare g f)
one_question Spare (Need other h there) all m n is its f g bar end =
    absurd (unlike (codes "need") (codes "spare")
    (the other ∷ the (codes "as") ∷ (guarantee_forms h ++ place_forms there)) [] all n m need_spare g f)

-- ---- all words

plain_words : (texts words : List Text) → IsLine (map (λ (word : Text). the word) texts) words → words ≡ texts
plain_words [] [] line = refl
plain_words [] (w ∷ words) line = absurd line
plain_words (t ∷ texts) [] line = absurd line
plain_words (t ∷ texts) (w ∷ words) line =
    ap (λ (x : Text). x ∷ words) line.0 ∙ ap (λ (ws : List Text). t ∷ ws) (plain_words texts words line.1)

record IsSplit (a : Asked) (words : List Text) : Type 0 where
  pub rest : List Text
  pub front : Front (question_forms a.question) words rest
  pub tail : rest ≡ tail_words a

split_of : (a : Asked) (words : List Text) → IsAsked words a → IsSplit a words
split_of a words is =
    let plain = map (λ (word : Text). the word) (tail_words a) in
    let split = front_split (question_forms a.question) plain words []
    (front_of_line (asked_forms a) words is.words_are) in
    record {
      rest = split.0;
      front = split.1;
      tail = plain_words (tail_words a) split.0 (line_of_front plain split.0 split.2);
    }

few_periods : (q : Question) → most_period q ≤ 20000
few_periods (Offer name on t) = omega arith
few_periods (Need name g on) = omega arith
few_periods Spare = omega arith

pub one_asked : (words : List Text) (one two : Asked) → IsAsked words one → IsAsked words two → one ≡ two
one_asked words one two is its =
    let a = split_of one words is in
    let b = split_of two words its in
    let bar : NoOn a.rest = λ more e. tail_no_on one.periods one.at one.depth more (sym a.tail ∙ e) in
    let end : NoOn b.rest = λ more e. tail_no_on two.periods two.at two.depth more (sym b.tail ∙ e) in
    let q = one_question one.question two.question words a.rest b.rest is.question its.question a.front b.front bar end
    in
    let t = one_tail (most_period one.question) (most_period two.question) one.periods two.periods one.at two.at
    one.depth two.depth (few_periods one.question) (few_periods two.question) is.periods its.periods
    (sym a.tail ∙ q.rest ∙ b.tail) in
    let m = one_moment one.at two.at one.depth two.depth is.tick its.tick is.depth its.depth t.words in
    λ i. record { question = q.question i; periods = t.periods i; at = m.tick i; depth = m.depth i }
