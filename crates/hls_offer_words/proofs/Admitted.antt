-- What the line of an admission says of terms and guarantees.
use Rattle.std.proofs.Common.{◌≡◌, List, [], ◌∷◌, ◌++◌, Bool, true, false, refl, sym, ap, ◌∙◌, arith, codes}
use Rattle.std.proofs.Common.{subst, lit<}
use Rattle.std.specs.Prelude.{Option, Some, None, Result, Ok, Err, map, IfOk, MatchOption}
use Rattle.std.specs.List.{AllByRecursion, list_all}
use Rattle.hls_text.specs.Tokens.{tokens_of}
use Rattle.hls_text.proofs.NumberLaws.{number_is}
use Rattle.hls_scenario.specs.Forms.{spaced}
use Rattle.hls_scenario.proofs.CanonicalLines.{IsWord}
use Rattle.hls_text.specs.Lines.{Text}
use Rattle.hls_chron.specs.declared.plain.Terms.{Terms}
use Rattle.hls_chron.specs.declared.plain.Terms.TheVariants as terms
use Rattle.hls_guarantee.specs.declared.Guarantee.{Guarantee}
use Rattle.hls_guarantee.specs.declared.Guarantee.TheVariants.{Null}
use Rattle.hls_guarantee.specs.Limits.{IsNarrow}
use Rattle.hls_scenario.specs.declared.scenario.Spot.{Spot}
use Rattle.hls_scenario.specs.declared.scenario.Spot.TheVariants as spots
use Rattle.hls_scenario.specs.declared.scenario.Perch.{Perch}
use Rattle.hls_scenario.specs.declared.scenario.Command.{Command}
use Rattle.hls_scenario.specs.declared.scenario.Command.TheVariants.{Thread}
use Rattle.hls_scenario.specs.declared.scenario.Item.{Item}
use Rattle.hls_scenario.specs.Forms.{Form, the, terms_forms, guarantee_forms, spot_forms, perch_forms, command_forms}
use Rattle.hls_scenario.specs.Grammar.{IsLine, IsTerms, IsSpot, IsPerch, IsCommand, IsItemLine}
use Rattle.hls_lang.proofs.Fronts.{Front, front_join, front_split, front_of_line, line_of_front}
use Rattle.hls_offer_words.specs.Inside.Spellings.{is_word, plain}
use Rattle.hls_offer_words.specs.Inside.Readings.{IsAdmission, AdmitsOn, AdmitsNowhere, AdmitsWith, AdmitsNobody}
use Rattle.hls_offer_words.specs.Inside.Readings.{IsTermsBefore, IsNoTerms}
use Rattle.hls_offer_words.specs.Inside.Readings.{IsWanted, IsNoWanted}
use Rattle.hls_offer_words.proofs.Rising.{words_apart}
use Rattle.hls_offer_words.proofs.Spelled.{admits, as_null, words_by, words_test, terms_words, wanted_words}
use Rattle.hls_offer_words.proofs.Spelled.{terms_tokens, wanted_tokens}

-- ---- a line that is read

-- the words behind the thread's name and `on` are the perch's
perch_line : (words : List Text) (perch : Perch) → IsAdmission (admits words) perch
    → IsPerch perch × IsLine (perch_forms perch) (codes "a" ∷ words)
perch_line words perch is =
    let command : IsCommand 1 (Thread is.name perch) = subst (IsCommand 1) is.admits is.line.0 in
    let line : IsLine (command_forms 1 (Thread is.name perch))
    (codes "thread" ∷ codes "a" ∷ codes "on" ∷ codes "a" ∷ words) =
    subst (λ (c : Command). IsLine (command_forms 1 c) (codes "thread" ∷ codes "a" ∷ codes "on" ∷ codes "a" ∷ words))
    is.admits is.line.3.1.1 in
    (command.1, line.1.1.1)

-- it is not the processor's
not_cpu : (words : List Text) (perch : Perch) → IsLine (perch_forms perch) (codes "a" ∷ words)
    → perch.spot ≡ spots.Cpu → ⊥
not_cpu words perch is e =
    let line : IsLine (spot_forms spots.Cpu ++ the (codes "as") ∷ guarantee_forms perch.want) (codes "a" ∷ words) =
    subst (λ (s : Spot). IsLine (spot_forms s ++ the (codes "as") ∷ guarantee_forms perch.want) (codes "a" ∷ words))
    e is in
    words_apart 97 99 [] (codes "pu") (λ (n : 97 ≡ 99). omega (arith, n)) line.0

terms_read : (words : List Text) (t : Terms) → AdmitsOn (admits (words ++ as_null)) t → IsTermsBefore words t
terms_read words t is =
    let read = perch_line (words ++ as_null) is.perch is.admission in
    let spot : IsSpot (spots.Under is.sched t) = subst IsSpot is.spot read.0.spot in
    let line : IsLine (spot_forms (spots.Under is.sched t) ++ the (codes "as") ∷ guarantee_forms is.perch.want)
    (codes "a" ∷ (words ++ as_null)) =
    subst (λ (s : Spot). IsLine (spot_forms s ++ the (codes "as") ∷ guarantee_forms is.perch.want)
    (codes "a" ∷ (words ++ as_null))) is.spot read.1 in
    let split = front_split (terms_forms t) (the (codes "as") ∷ guarantee_forms is.perch.want) (words ++ as_null) []
    (front_of_line (terms_forms t ++ the (codes "as") ∷ guarantee_forms is.perch.want) (words ++ as_null) line.1) in
    record { rest = split.0; begin = record { within = spot.1; front = split.1 } }

-- behind a turn a guarantee stands
turn_line : (t : Terms) (g : Guarantee) (words : List Text) → IsTerms t
    → IsLine (terms_forms t ++ the (codes "as") ∷ guarantee_forms g) (codes "turn" ∷ codes "as" ∷ words)
    → IsLine (guarantee_forms g) words
turn_line terms.Cpu g words is line = absurd is
turn_line (terms.Prio n) g words is line =
    absurd (words_apart 116 112 (codes "urn") (codes "rio") (λ (n : 116 ≡ 112). omega (arith, n)) line.0)
turn_line (terms.Res true x y) g words is line =
    absurd (words_apart 116 114 (codes "urn") (codes "es") (λ (n : 116 ≡ 114). omega (arith, n)) line.0)
turn_line (terms.Res false x y) g words is line =
    absurd (words_apart 116 114 (codes "urn") (codes "es") (λ (n : 116 ≡ 114). omega (arith, n)) line.0)
turn_line (terms.Weight w) g words is line =
    absurd (words_apart 116 119 (codes "urn") (codes "eight") (λ (n : 116 ≡ 119). omega (arith, n)) line.0)
turn_line (terms.Slots k) g words is line =
    absurd (words_apart 116 115 (codes "urn") (codes "lots") (λ (n : 116 ≡ 115). omega (arith, n)) line.0)
turn_line terms.Turn g words is line = line.1.1
turn_line terms.Sole g words is line =
    absurd (words_apart 116 115 (codes "urn") (codes "ole") (λ (n : 116 ≡ 115). omega (arith, n)) line.0)

perch_read : (words : List Text) (perch : Perch) → IsAdmission (admits (codes "turn" ∷ codes "as" ∷ words)) perch
    → IsWanted words perch.want
perch_read words perch is = record { within = read.0.want; line = by perch.spot refl }
  where
    read : IsPerch perch × IsLine (perch_forms perch) (codes "a" ∷ codes "turn" ∷ codes "as" ∷ words)
    read = perch_line (codes "turn" ∷ codes "as" ∷ words) perch is

    by : (spot : Spot) → perch.spot ≡ spot → IsLine (guarantee_forms perch.want) words
    by spots.Cpu e = absurd (not_cpu (codes "turn" ∷ codes "as" ∷ words) perch read.1 e)
    by (spots.Under sched t) e =
        let spot : IsSpot (spots.Under sched t) = subst IsSpot e read.0.spot in
        let line : IsLine (spot_forms (spots.Under sched t) ++ the (codes "as") ∷ guarantee_forms perch.want)
        (codes "a" ∷ codes "turn" ∷ codes "as" ∷ words) =
        subst (λ (s : Spot). IsLine (spot_forms s ++ the (codes "as") ∷ guarantee_forms perch.want)
        (codes "a" ∷ codes "turn" ∷ codes "as" ∷ words)) e read.1 in
        turn_line t perch.want words spot.1 line.1

-- ---- a line that is not read

pub line_front : (forms : List Form) (words more : List Text) → IsLine forms words → Front forms (words ++ more) more
line_front [] [] more line = refl
line_front [] (w ∷ words) more line = absurd line
line_front (f ∷ forms) [] more line = absurd line
line_front (f ∷ forms) (w ∷ words) more line = (line.0, line_front forms words more line.1)

admission_line : (t : Terms) (g : Guarantee) (words : List Text) → IsTerms t → IsNarrow g
    → IsLine (terms_forms t ++ the (codes "as") ∷ guarantee_forms g) words
    → IsItemLine 1 1 0 (admits words)
    (record { tick = 0; command = Thread (codes "a") (record { spot = spots.Under (codes "a") t; want = g }) })
admission_line t g words is narrow line = (
  (refl, record { spot = (refl, is); want = narrow }),
  omega arith,
  omega arith,
  (refl, (number_is (codes "0") 0 (lit< tt) refl, (refl, (refl, (refl, (refl, line)))))),
)

admission_of : (t : Terms) (g : Guarantee) (words : List Text) → IsTerms t → IsNarrow g
    → IsLine (terms_forms t ++ the (codes "as") ∷ guarantee_forms g) words
    → IsAdmission (admits words) (record { spot = spots.Under (codes "a") t; want = g })
admission_of t g words is narrow line = record {
  item = record { tick = 0; command = Thread (codes "a") (record { spot = spots.Under (codes "a") t; want = g }) };
  line = admission_line t g words is narrow line;
  name = codes "a";
  admits = refl;
}

no_cpu : (sched : Text) (t : Terms) → spots.Under sched t ≡ spots.Cpu → ⊥
no_cpu sched t e = absurd (cc)

terms_unread : (words : List Text) → AdmitsNowhere (admits (words ++ as_null)) → IsNoTerms words
terms_unread words none = λ t is line.
    no_cpu (codes "a") t
    (none (record { spot = spots.Under (codes "a") t; want = Null })
    (admission_of t Null (words ++ as_null) is tt
    (line_of_front (terms_forms t ++ the (codes "as") ∷ guarantee_forms Null) (words ++ as_null)
    (front_join (terms_forms t) (the (codes "as") ∷ guarantee_forms Null) (words ++ as_null) as_null []
    (line_front (terms_forms t) words as_null line) (refl, (refl, refl))))))

wanted_unread : (words : List Text) → AdmitsNobody (admits (codes "turn" ∷ codes "as" ∷ words)) → IsNoWanted words
wanted_unread words none = λ g is.
    none (record { spot = spots.Under (codes "a") terms.Turn; want = g })
    (admission_of terms.Turn g (codes "turn" ∷ codes "as" ∷ words) tt is.within (refl, (refl, is.line)))

-- ---- what is read of the line

appended : (none one two : Text) (more last : Text) → none ≡ [] → one ≡ none ++ last → two ≡ one ++ more
    → two ≡ last ++ more
appended none one two more last empty first second =
    second ∙ ap (λ (t : Text). t ++ more) (first ∙ ap (λ (t : Text). t ++ last) empty)

pub terms_told : {A E : Type 0} (f : A → Text) (xs : List A) (tested : Bool) (none one two three line : Text)
    (result : Result (Option Terms) E) → tested ≡ list_all (λ (x : A). is_word (f x)) xs → tested ≡ true → none ≡ []
    → one ≡ none ++ codes "at 0 thread a on a" → two ≡ one ++ spaced (plain (map f xs))
    → three ≡ two ++ codes " as NULL" → line ≡ three
    → IfOk result (λ found. MatchOption found (AdmitsNowhere (tokens_of line)) (AdmitsOn (tokens_of line)))
    → IfOk result (λ found. MatchOption found (IsNoTerms (map f xs)) (IsTermsBefore (map f xs)))
terms_told {A} f xs tested none one two three line result test good empty first second third same is =
    by result
    (subst (λ (ts : List Text). IfOk result (λ found. MatchOption found (AdmitsNowhere ts) (AdmitsOn ts))) tokens is)
  where
    are : AllByRecursion IsWord (map f xs)
    are = words_by f xs (sym test ∙ good)

    tokens : tokens_of line ≡ admits (map f xs ++ as_null)
    tokens = ap tokens_of (same ∙ third ∙ ap (λ (t : Text). t ++ codes " as NULL")
        (appended none one two (spaced (plain (map f xs))) (codes "at 0 thread a on a") empty first second))
        ∙ terms_tokens (map f xs) are

    by : {E : Type 0} (result : Result (Option Terms) E)
        → IfOk result (λ found. MatchOption found (AdmitsNowhere (admits (map f xs ++ as_null)))
        (AdmitsOn (admits (map f xs ++ as_null))))
        → IfOk result (λ found. MatchOption found (IsNoTerms (map f xs)) (IsTermsBefore (map f xs)))
    by (Ok None) none = terms_unread (map f xs) none
    by (Ok (Some t)) is = terms_read (map f xs) t is
    by (Err error) is = tt

pub wanted_told : {A E : Type 0} (f : A → Text) (xs : List A) (tested : Bool) (none one two line : Text)
    (result : Result (Option Guarantee) E) → tested ≡ list_all (λ (x : A). is_word (f x)) xs → tested ≡ true
    → none ≡ [] → one ≡ none ++ codes "at 0 thread a on a turn as" → two ≡ one ++ spaced (plain (map f xs))
    → line ≡ two
    → IfOk result (λ found. MatchOption found (AdmitsNobody (tokens_of line)) (AdmitsWith (tokens_of line)))
    → IfOk result (λ found. MatchOption found (IsNoWanted (map f xs)) (IsWanted (map f xs)))
wanted_told {A} f xs tested none one two line result test good empty first second same is =
    by result
    (subst (λ (ts : List Text). IfOk result (λ found. MatchOption found (AdmitsNobody ts) (AdmitsWith ts))) tokens is)
  where
    are : AllByRecursion IsWord (map f xs)
    are = words_by f xs (sym test ∙ good)

    tokens : tokens_of line ≡ admits (codes "turn" ∷ codes "as" ∷ map f xs)
    tokens = ap tokens_of (same
        ∙ appended none one two (spaced (plain (map f xs))) (codes "at 0 thread a on a turn as") empty first second)
        ∙ wanted_tokens (map f xs) are

    by : {E : Type 0} (result : Result (Option Guarantee) E)
        → IfOk result (λ found. MatchOption found (AdmitsNobody (admits (codes "turn" ∷ codes "as" ∷ map f xs)))
        (AdmitsWith (admits (codes "turn" ∷ codes "as" ∷ map f xs))))
        → IfOk result (λ found. MatchOption found (IsNoWanted (map f xs)) (IsWanted (map f xs)))
    by (Ok None) none = wanted_unread (map f xs) none
    by (Ok (Some g)) is =
        subst (λ (h : Guarantee). IsWanted (map f xs) h) is.want (perch_read (map f xs) is.perch is.admission)
    by (Err error) is = tt

pub no_terms_told : {A : Type 0} (f : A → Text) (xs : List A) (tested : Bool)
    → tested ≡ list_all (λ (x : A). is_word (f x)) xs → tested ≡ false → IsNoTerms (map f xs)
no_terms_told f xs tested test bad = λ t is line.
    let good = words_test f xs (terms_words t (map f xs) is line) in absurd (cc)

pub no_wanted_told : {A : Type 0} (f : A → Text) (xs : List A) (tested : Bool)
    → tested ≡ list_all (λ (x : A). is_word (f x)) xs → tested ≡ false → IsNoWanted (map f xs)
no_wanted_told f xs tested test bad = λ g is.
    let good = words_test f xs (wanted_words g (map f xs) is.within is.line) in absurd (cc)

-- ---- the one item of the line

same_command : (other item : Item) → Some item ≡ Some other → item.command ≡ other.command
same_command other item e = let same : item ≡ other = cc in ap (λ (i : Item). i.command) same

pub terms_item : (tokens : List Text) (item : Item) (result : Option Terms) → IsItemLine 1 1 0 tokens item
    → ((other : Item) → IsItemLine 1 1 0 tokens other → Some item ≡ Some other)
    → MatchOption result
    ((name : Text) (perch : Perch) → item.command ≡ Thread name perch → perch.spot ≡ spots.Cpu)
    (λ t. (name : Text) × (perch : Perch) × (sched : Text) × (item.command ≡ Thread name perch) ×
    (perch.spot ≡ spots.Under sched t))
    → MatchOption result (AdmitsNowhere tokens) (AdmitsOn tokens)
terms_item tokens item None line exact none = λ perch is. none is.name perch (same_command is.item item
    (exact is.item is.line) ∙ is.admits)
terms_item tokens item (Some t) line exact is = record {
  perch = is.1;
  admission = record { item = item; line = line; name = is.0; admits = is.3 };
  sched = is.2;
  spot = is.4;
}

pub wanted_item : (tokens : List Text) (item : Item) (result : Option Guarantee) → IsItemLine 1 1 0 tokens item
    → ((other : Item) → IsItemLine 1 1 0 tokens other → Some item ≡ Some other)
    → MatchOption result ((name : Text) (perch : Perch) → item.command ≡ Thread name perch → ⊥)
    (λ g. (name : Text) × (perch : Perch) × (item.command ≡ Thread name perch) × (perch.want ≡ g))
    → MatchOption result (AdmitsNobody tokens) (AdmitsWith tokens)
wanted_item tokens item None line exact none = λ perch is. none is.name perch (same_command is.item item
    (exact is.item is.line) ∙ is.admits)
wanted_item tokens item (Some g) line exact is = record {
  perch = is.1;
  admission = record { item = item; line = line; name = is.0; admits = is.2 };
  want = is.3;
}

pub no_terms_item : (tokens : List Text) → ((other : Item) → IsItemLine 1 1 0 tokens other → None ≡ Some other)
    → AdmitsNowhere tokens
no_terms_item tokens exact = λ perch is. absurd (let e = exact is.item is.line in cc)

pub no_wanted_item : (tokens : List Text) → ((other : Item) → IsItemLine 1 1 0 tokens other → None ≡ Some other)
    → AdmitsNobody tokens
no_wanted_item tokens exact = λ perch is. absurd (let e = exact is.item is.line in cc)
