-- Words ask for one view at most.
use Rattle.std.proofs.Common.{◌≡◌, ℕ, ◌+◌, List, [], ◌∷◌, codes, drop, ap, ap₂, sym, subst, ◌∙◌, refl}
use Rattle.std.proofs.Common.{inl, inr, get_or, arith}
use Rattle.std.specs.Prelude.{decimal, Option, Some, None}
use Rattle.std.proofs.lemmas.Fmt.{decimal_injective}
use Rattle.hls_text.specs.Lines.{Text}
use Rattle.hls_view_words.specs.Table.{Heads, StatesTick, HasTick, MayTick}
use Rattle.hls_view_words.specs.Table.{StatesName, MayName, MaySpan, MayLast, IsView}
use Rattle.hls_view_words.specs.declared.views.View.{View}
use Rattle.hls_view_words.specs.declared.views.View.TheVariants.{Svg, Trace, Margins, Tree, Jobs}
use Rattle.hls_view_words.proofs.Heading.{no_head, same_head, same_span}

empty_not : (word : Text) (words : List Text) → [] ≡ word ∷ words → ⊥
empty_not word words e = absurd cc

one_not_two : (first second third : Text) → first ∷ second ∷ [] ≡ third ∷ [] → ⊥
one_not_two first second third e = absurd cc

second_of : (first second third fourth : Text) → first ∷ second ∷ [] ≡ third ∷ fourth ∷ [] → second ≡ fourth
second_of first second third fourth e = cc

only_of : (first second : Text) → first ∷ [] ≡ second ∷ [] → first ≡ second
only_of first second e = cc

rest_of_words : (first second : Text) (options others : List Text) → first ∷ options ≡ second ∷ others
    → options ≡ others
rest_of_words first second options others e = cc

-- ---- ticks

same_text : (options : List Text) (one two : ℕ) → StatesTick options one → StatesTick options two
    → decimal one ≡ decimal two
same_text options one two (inl a) (inl b) = second_of _ _ _ _ (sym a ∙ b)
same_text options one two (inl a) (inr b) = absurd (one_not_two _ _ _ (sym a ∙ b))
same_text options one two (inr a) (inl b) = absurd (one_not_two _ _ _ (sym b ∙ a))
same_text options one two (inr a) (inr b) = ap (λ (t : Text). drop 5 t) (only_of _ _ (sym a ∙ b))

same_tick : (options : List Text) (one two : ℕ) → HasTick options one → HasTick options two → one ≡ two
same_tick options one two (small, a) (least, b) =
    decimal_injective one two (omega (arith, small)) (omega (arith, least)) (same_text options one two a b)

ticks_some : (tick : ℕ) → StatesTick [] tick → ⊥
ticks_some tick (inl e) = empty_not _ _ e
ticks_some tick (inr e) = empty_not _ _ e

same_at : (options others : List Text) (one two : Option ℕ) → options ≡ others → MayTick options one
    → MayTick others two → one ≡ two
same_at options others None None same a b = refl
same_at options others (Some one) None same a b =
    absurd (ticks_some one (subst (λ (o : List Text). StatesTick o one) (same ∙ b) a.1))
same_at options others None (Some two) same a b =
    absurd (ticks_some two (subst (λ (o : List Text). StatesTick o two) (sym same ∙ a) b.1))
same_at options others (Some one) (Some two) same a b =
    ap (λ (tick : ℕ). Some tick) (same_tick others one two
    (subst (λ (o : List Text). HasTick o one) same a) b)

-- ---- names

same_name : (options : List Text) (one two : Text) → StatesName options one → StatesName options two → one ≡ two
same_name options one two (inl a) (inl b) = second_of _ _ _ _ (sym a ∙ b)
same_name options one two (inl a) (inr b) = absurd (one_not_two _ _ _ (sym a ∙ b))
same_name options one two (inr a) (inl b) = absurd (one_not_two _ _ _ (sym b ∙ a))
same_name options one two (inr a) (inr b) = ap (λ (t : Text). drop 5 t) (only_of _ _ (sym a ∙ b))

names_some : (name : Text) → StatesName [] name → ⊥
names_some name (inl e) = empty_not _ _ e
names_some name (inr e) = empty_not _ _ e

same_of : (options others : List Text) (one two : Option Text) → options ≡ others → MayName options one
    → MayName others two → one ≡ two
same_of options others None None same a b = refl
same_of options others (Some one) None same a b =
    absurd (names_some one (subst (λ (o : List Text). StatesName o one) (same ∙ b) a.1))
same_of options others None (Some two) same a b =
    absurd (names_some two (subst (λ (o : List Text). StatesName o two) (sym same ∙ a) b.1))
same_of options others (Some one) (Some two) same a b =
    ap (λ (name : Text). Some name) (same_name others one two
    (subst (λ (o : List Text). StatesName o one) same a.1) b.1)

-- ---- lengths of ticks

same_last : (options : List Text) (one two : Option ℕ) → MayLast options one → MayLast options two → one ≡ two
same_last options None None a b = refl
same_last options None (Some two) a (least, most, b) =
    absurd (no_head _ two [] (subst (λ (o : List Text). Heads (codes "--tick") o two []) a b))
same_last options (Some one) None (least, most, a) b =
    absurd (no_head _ one [] (subst (λ (o : List Text). Heads (codes "--tick") o one []) b a))
same_last options (Some one) (Some two) (least, most, a) (some, few, b) =
    ap (λ (tick : ℕ). Some tick)
    (same_head _ options one two [] [] (omega (arith, most)) (omega (arith, few)) a b).0

-- ---- the first word

-- by two of its letters
abbrev letters : List Text → ℕ
letters [] = 0
letters (word ∷ words) = get_or word 0 0 + get_or word 2 0

abbrev letters_of : View → ℕ
letters_of (Svg from to) = 218
letters_of (Trace tick) = 213
letters_of Margins = 223
letters_of (Tree at) = 217
letters_of (Jobs of) = 204

view_letters : (words : List Text) (view : View) → IsView words view → letters words ≡ letters_of view
view_letters words (Svg from to) (options, is, has) = ap letters is
view_letters words (Trace tick) (options, is, has) = ap letters is
view_letters words Margins is = ap letters is
view_letters words (Tree at) (options, is, has) = ap letters is
view_letters words (Jobs of) (options, is, has) = ap letters is

same_letters : (words : List Text) (one two : View) → IsView words one → IsView words two
    → letters_of one ≡ letters_of two
same_letters words one two a b = sym (view_letters words one a) ∙ view_letters words two b

pub same_view : (words : List Text) (one two : View) → IsView words one → IsView words two → one ≡ two
same_view words (Svg from to) (Svg first last) (options, is, has) (others, also, hold) =
    let rest = rest_of_words (codes "svg") (codes "svg") options others (sym is ∙ also) in
    let same = same_span others from to first last (subst (λ (o : List Text). MaySpan o from to) rest has) hold in
    ap₂ (λ (a b : Option ℕ). Svg a b) same.0 same.1
same_view words (Trace one) (Trace two) (options, is, has) (others, also, hold) =
    let rest = rest_of_words (codes "trace") (codes "trace") options others (sym is ∙ also) in
    ap (λ (tick : Option ℕ). Trace tick)
    (same_last others one two (subst (λ (o : List Text). MayLast o one) rest has) hold)
same_view words Margins Margins a b = refl
same_view words (Tree one) (Tree two) (options, is, has) (others, also, hold) =
    ap (λ (at : Option ℕ). Tree at) (same_at options others one two
    (rest_of_words (codes "tree") (codes "tree") options others (sym is ∙ also)) has hold)
same_view words (Jobs one) (Jobs two) (options, is, has) (others, also, hold) =
    ap (λ (of : Option Text). Jobs of) (same_of options others one two
    (rest_of_words (codes "jobs") (codes "jobs") options others (sym is ∙ also)) has hold)
same_view words one two a b = let same = same_letters words one two a b in absurd (omega (arith, same))

-- ---- no view has ticks of no time

untold : (words : List Text) (n : ℕ) → n ≡ 0 → Heads (codes "--tick") words n [] → (tick : Option ℕ)
    → MayLast words tick → ⊥
untold words n none here None e = no_head _ n [] (subst (λ (o : List Text). Heads (codes "--tick") o n []) e here)
untold words n none here (Some length) (least, most, is) =
    let same = (same_head _ words n length [] [] (omega (arith, none)) (omega (arith, most)) here is).0 in
    absurd (omega (arith, none, least, same))

pub no_time : (words : List Text) (n : ℕ) → n ≡ 0 → Heads (codes "--tick") words n [] → (view : View)
    → IsView (codes "trace" ∷ words) view → ⊥
no_time words n none here (Trace tick) (options, is, has) =
    untold words n none here tick
    (subst (λ (o : List Text). MayLast o tick) (sym (rest_of_words (codes "trace") (codes "trace") words options is))
    has)
no_time words n none here view is =
    let same : letters (codes "trace" ∷ words) ≡ letters_of view = view_letters (codes "trace" ∷ words) view is in
    absurd (omega (arith, same))
