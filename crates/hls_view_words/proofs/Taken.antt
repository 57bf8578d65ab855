-- Clap takes the words of the table.
use Rattle.std.proofs.Common.{codes, true, List, [], ◌∷◌, ◌++◌, ◌≡◌, ℕ, ◌≤◌, ◌<◌, ◌+◌, ◌-◌, suc, zero, arith}
use Rattle.std.proofs.Common.{inl, inr, refl, ◌⊎◌}
use Rattle.std.specs.Prelude.{decimal, nat_le, Option, Some, None}
use Rattle.std.proofs.lemmas.Bool.{leb-true}
use Rattle.clap.specs.Words.{Text, takes}
use Rattle.clap.proofs.OnLiterals.{clap_on_literals}
use Rattle.hls_text.proofs.NumberLaws.{and_left, and_right}
use Rattle.hls_chron.specs.Name.{IsName, is_letter}
use Rattle.hls_view_words.specs.Table.{MayTick, MayName, MayLast, IsView}
use Rattle.hls_view_words.specs.Inside.Commands.{hlsview}
use Rattle.hls_view_words.specs.declared.views.View.{View}
use Rattle.hls_view_words.specs.declared.views.View.TheVariants.{Svg, Trace, Margins, Tree, Jobs}
use Rattle.hls_view_words.proofs.Digits.{number_is_digits, tick_is_digits}
use Rattle.hls_view_words.proofs.TakenSpans.{takes_span}
use Rattle.hls_view_words.proofs.TwoApart.{ten, with_value}

takes_margins : takes hlsview (codes "margins" ∷ []) ≡ true
unfolding clap_on_literals
takes_margins = refl

-- ---- tree: a word that begins with a digit is no option

takes_tree : takes hlsview (codes "tree" ∷ []) ≡ true
unfolding clap_on_literals
takes_tree = refl

takes_tick_is : (v : Text) → takes hlsview (codes "tree" ∷ (codes "--at=" ++ v) ∷ []) ≡ true
unfolding clap_on_literals
takes_tick_is v = refl

takes_digit : (k : ℕ) (rest : Text) → k ≤ 9
    → takes hlsview (codes "tree" ∷ codes "--at" ∷ ((48 + k) ∷ rest) ∷ []) ≡ true
unfolding clap_on_literals
takes_digit zero rest le = refl
takes_digit (suc zero) rest le = refl
takes_digit (suc (suc zero)) rest le = refl
takes_digit (suc (suc (suc zero))) rest le = refl
takes_digit (suc (suc (suc (suc zero)))) rest le = refl
takes_digit (suc (suc (suc (suc (suc zero))))) rest le = refl
takes_digit (suc (suc (suc (suc (suc (suc zero)))))) rest le = refl
takes_digit (suc (suc (suc (suc (suc (suc (suc zero))))))) rest le = refl
takes_digit (suc (suc (suc (suc (suc (suc (suc (suc zero)))))))) rest le = refl
takes_digit (suc (suc (suc (suc (suc (suc (suc (suc (suc zero))))))))) rest le = refl
takes_digit (suc (suc (suc (suc (suc (suc (suc (suc (suc (suc k)))))))))) rest le = absurd (omega arith)

takes_tick : (options : List Text) (at : Option ℕ) → MayTick options at
    → takes hlsview (codes "tree" ∷ options) ≡ true
takes_tick options None is = rw is takes_tree
takes_tick options (Some tick) (small, inl apart) =
    let d = tick_is_digits tick small in
    rw (apart, d.is) (takes_digit d.first d.rest d.small)
takes_tick options (Some tick) (small, inr joined) = rw joined (takes_tick_is (decimal tick))

-- ---- trace

takes_trace : takes hlsview (codes "trace" ∷ []) ≡ true
unfolding clap_on_literals
takes_trace = refl

trace_joined : (v : Text) → takes hlsview (codes "trace" ∷ with_value (codes "--tick") v ∷ []) ≡ true
unfolding clap_on_literals
trace_joined v = refl

trace_apart : (k : ℕ) (v : Text) → k ≤ 9
    → takes hlsview (codes "trace" ∷ codes "--tick" ∷ ((48 + k) ∷ v) ∷ []) ≡ true
unfolding clap_on_literals
trace_apart k v le =
    ten (λ b. takes hlsview (codes "trace" ∷ codes "--tick" ∷ (b ∷ v) ∷ []) ≡ true)
    refl refl refl refl refl refl refl refl refl refl k le

takes_last : (options : List Text) (tick : Option ℕ) → MayLast options tick
    → takes hlsview (codes "trace" ∷ options) ≡ true
takes_last options None is = rw is takes_trace
takes_last options (Some tick) (least, most, inl apart) =
    let d = number_is_digits tick most in
    rw (apart, d.is) (trace_apart d.first d.rest d.small)
takes_last options (Some tick) (least, most, inr joined) = rw joined (trace_joined (decimal tick))

-- ---- jobs

takes_jobs : takes hlsview (codes "jobs" ∷ []) ≡ true
unfolding clap_on_literals
takes_jobs = refl

takes_joined : (v : Text) → takes hlsview (codes "jobs" ∷ (codes "--of=" ++ v) ∷ []) ≡ true
unfolding clap_on_literals
takes_joined v = refl

-- a word that begins with a letter is no option

takes_early : (k : ℕ) (rest : Text) → k < 13
    → takes hlsview (codes "jobs" ∷ codes "--of" ∷ ((97 + k) ∷ rest) ∷ []) ≡ true
unfolding clap_on_literals
takes_early zero rest lt = refl
takes_early (suc zero) rest lt = refl
takes_early (suc (suc zero)) rest lt = refl
takes_early (suc (suc (suc zero))) rest lt = refl
takes_early (suc (suc (suc (suc zero)))) rest lt = refl
takes_early (suc (suc (suc (suc (suc zero))))) rest lt = refl
takes_early (suc (suc (suc (suc (suc (suc zero)))))) rest lt = refl
takes_early (suc (suc (suc (suc (suc (suc (suc zero))))))) rest lt = refl
takes_early (suc (suc (suc (suc (suc (suc (suc (suc zero)))))))) rest lt = refl
takes_early (suc (suc (suc (suc (suc (suc (suc (suc (suc zero))))))))) rest lt = refl
takes_early (suc (suc (suc (suc (suc (suc (suc (suc (suc (suc zero)))))))))) rest lt = refl
takes_early (suc (suc (suc (suc (suc (suc (suc (suc (suc (suc (suc zero))))))))))) rest lt = refl
takes_early (suc (suc (suc (suc (suc (suc (suc (suc (suc (suc (suc (suc zero)))))))))))) rest lt = refl
takes_early (suc (suc (suc (suc (suc (suc (suc (suc (suc (suc (suc (suc (suc k))))))))))))) rest lt =
    absurd (omega arith)

takes_late : (k : ℕ) (rest : Text) → k < 13
    → takes hlsview (codes "jobs" ∷ codes "--of" ∷ ((110 + k) ∷ rest) ∷ []) ≡ true
unfolding clap_on_literals
takes_late zero rest lt = refl
takes_late (suc zero) rest lt = refl
takes_late (suc (suc zero)) rest lt = refl
takes_late (suc (suc (suc zero))) rest lt = refl
takes_late (suc (suc (suc (suc zero)))) rest lt = refl
takes_late (suc (suc (suc (suc (suc zero))))) rest lt = refl
takes_late (suc (suc (suc (suc (suc (suc zero)))))) rest lt = refl
takes_late (suc (suc (suc (suc (suc (suc (suc zero))))))) rest lt = refl
takes_late (suc (suc (suc (suc (suc (suc (suc (suc zero)))))))) rest lt = refl
takes_late (suc (suc (suc (suc (suc (suc (suc (suc (suc zero))))))))) rest lt = refl
takes_late (suc (suc (suc (suc (suc (suc (suc (suc (suc (suc zero)))))))))) rest lt = refl
takes_late (suc (suc (suc (suc (suc (suc (suc (suc (suc (suc (suc zero))))))))))) rest lt = refl
takes_late (suc (suc (suc (suc (suc (suc (suc (suc (suc (suc (suc (suc zero)))))))))))) rest lt = refl
takes_late (suc (suc (suc (suc (suc (suc (suc (suc (suc (suc (suc (suc (suc k))))))))))))) rest lt =
    absurd (omega arith)

split : (b n : ℕ) → (b < n) ⊎ (n ≤ b)
split b zero = inr (omega arith)
split zero (suc n) = inl (omega arith)
split (suc b) (suc n) = elim (split b n) [
  | inl below ↦ inl (omega (arith, below))
  | inr above ↦ inr (omega (arith, above))
]

takes_letter : (b : ℕ) (rest : Text) → 97 ≤ b → b ≤ 122 → (b < 110) ⊎ (110 ≤ b)
    → takes hlsview (codes "jobs" ∷ codes "--of" ∷ (b ∷ rest) ∷ []) ≡ true
takes_letter b rest least most (inl early) =
    let same : b ≡ 97 + (b - 97) = omega (arith, least) in
    rw same (takes_early (b - 97) rest (omega (arith, early)))
takes_letter b rest least most (inr late) =
    let same : b ≡ 110 + (b - 110) = omega (arith, late) in
    rw same (takes_late (b - 110) rest (omega (arith, most)))

takes_apart : (name : Text) → IsName name → takes hlsview (codes "jobs" ∷ codes "--of" ∷ name ∷ []) ≡ true
takes_apart [] is = absurd cc
takes_apart (b ∷ rest) is =
    let letter : is_letter b ≡ true = and_left (is_letter b) _ is in
    let least : 97 ≤ b = leb-true 97 b (and_left (nat_le 97 b) (nat_le b 122) letter) in
    let most : b ≤ 122 = leb-true b 122 (and_right (nat_le 97 b) (nat_le b 122) letter) in
    takes_letter b rest least most (split b 110)

takes_options : (options : List Text) (of : Option Text) → MayName options of
    → takes hlsview (codes "jobs" ∷ options) ≡ true
takes_options options None is = rw is takes_jobs
takes_options options (Some name) (named, inl apart) = rw apart (takes_apart name named)
takes_options options (Some name) (named, inr joined) = rw joined (takes_joined name)

pub takes_view : (words : List Text) (view : View) → IsView words view → takes hlsview words ≡ true
takes_view words (Svg from to) (options, is, has) = rw is (takes_span options from to has)
takes_view words (Trace tick) (options, is, has) = rw is (takes_last options tick has)
takes_view words Margins is = rw is takes_margins
takes_view words (Tree at) (options, is, has) = rw is (takes_tick options at has)
takes_view words (Jobs of) (options, is, has) = rw is (takes_options options of has)
