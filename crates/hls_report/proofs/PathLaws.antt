-- The words of a path are read name by name.
use Rattle.std.proofs.Common.{◌≡◌, ℕ, suc, ◌+◌, ◌^◌, ◌<◌, ◌≤◌, Bool, true, false, cond, List, [], ◌∷◌}
use Rattle.std.proofs.Common.{◌++◌, length, get_or, take, drop, refl, sym, ap, ◌∙◌, subst, arith}
use Rattle.std.proofs.Common.{append_assoc}
use Rattle.std.specs.Prelude.{◌==◌, ◌||◌, nat_lt, not, codes, position, Option, Some, None}
use Rattle.std.specs.List.{AllByRecursion, list_any, position_or_len}
use Rattle.std.proofs.Math.Seq.{take-append_seam, drop-append_seam}
use Rattle.std.proofs.lemmas.Bool.{eqb-true, ltb-false}
use Rattle.std.proofs.lemmas.List.Sums.{prefix_len-le-length}
use Rattle.std.proofs.lemmas.List.{append-nil, length-append, map-append}
use Rattle.std.proofs.lemmas.Grind.{flat_map-append}
use Rattle.hls_text.specs.Lines.{Text}
use Rattle.hls_chron.specs.Name.{IsName}
use Rattle.hls_scenario.proofs.CanonicalLines.{all_append}
use Rattle.hls_text.specs.Options.{◌>>=◌}
use Rattle.hls_report_text.specs.declared.report.Path.{Path}
use Rattle.hls_report_text.specs.Content.{path_names}
use Rattle.hls_report_text.specs.WellFormed.{with_name, with_names}
use Rattle.hls_report_text.specs.Inside.Reading.{name_at}
use Rattle.hls_report.specs.Inside.Paths.{names_text, name_length, first_name_at, FitIn, IsPathRead}
use Rattle.hls_text.proofs.Marks.{Lacks}
use Rattle.hls_report_text.proofs.Marks.{name_lacks}
use Rattle.hls_report_text.proofs.RefusalTexts.{name_again}
use Rattle.hls_report_text.proofs.NameLaws.{Grows, name_grows, names_grow, grown_length, named_at, AreIn}
use Rattle.hls_report_text.proofs.NameLaws.{grown_in}
use Rattle.hls_report_text.proofs.NameLaws.{grown_names}

-- ---- the first name

pub no_place : (m : ℕ) (text : Text) → None ≡ position (λ b. b == m) text
    → length text ≡ position_or_len (λ b. b == m) text
no_place m text none = by_test (nat_lt at (length text)) refl none
  where
    at : ℕ
    at = position_or_len (λ b. b == m) text

    by_test : (b : Bool) → nat_lt at (length text) ≡ b → None ≡ cond b (Some at) None → length text ≡ at
    by_test true e f = absurd cc
    by_test false e f =
        let le : at ≤ length text = prefix_len-le-length (λ b. not (b == m)) text in
        let ge = ltb-false at (length text) e in omega arith

length_lacks : (name rest : Text) → Lacks 47 name → name_length (name ++ 47 ∷ rest) ≡ length name
length_lacks [] rest lacks = refl
length_lacks (b ∷ bs) rest lacks = by_test (b == 47) lacks (length_lacks bs rest)
  where
    by_test : (t : Bool) → (t || list_any (λ c. c == 47) bs) ≡ false
        → (Lacks 47 bs → name_length (bs ++ 47 ∷ rest) ≡ length bs)
        → cond (not t) (1 + name_length (bs ++ 47 ∷ rest)) 0 ≡ suc (length bs)
    by_test true e more = absurd cc
    by_test false e more = let n = more e in omega arith

length_all : (name : Text) → Lacks 47 name → name_length name ≡ length name
length_all [] lacks = refl
length_all (b ∷ bs) lacks = by_test (b == 47) lacks (length_all bs)
  where
    by_test : (t : Bool) → (t || list_any (λ c. c == 47) bs) ≡ false
        → (Lacks 47 bs → name_length bs ≡ length bs) → cond (not t) (1 + name_length bs) 0 ≡ suc (length bs)
    by_test true e more = absurd cc
    by_test false e more = let n = more e in omega arith

length_before : (name : Text) (more : List Text) → Lacks 47 name
    → name_length (name ++ names_text more) ≡ length name
length_before name [] lacks = ap name_length (append-nil name) ∙ length_all name lacks
length_before name (m ∷ more) lacks = length_lacks name (m ++ names_text more) lacks

both_parts : Text → Text → Option (Text × Text)
both_parts name rest = Some (name, rest)

cut_here : (n : ℕ) (name rest : Text) → n ≡ length name → IsName name
    → (name_at (take n (name ++ rest)) >>= λ m. both_parts m (drop n (name ++ rest))) ≡ both_parts name rest
cut_here n name rest e is =
    ap (λ (k : ℕ). name_at (take k (name ++ rest)) >>= λ m. both_parts m (drop k (name ++ rest))) e
    ∙ ap (λ (t : Text). name_at t >>= λ m. both_parts m (drop (length name) (name ++ rest)))
    (take-append_seam name rest)
    ∙ ap (λ (t : Text). name_at name >>= λ m. both_parts m t) (drop-append_seam name rest)
    ∙ ap (λ (o : Option Text). o >>= λ m. both_parts m rest) (name_again name is)

pub first_again : (name : Text) (more : List Text) → IsName name
    → first_name_at (names_text (name ∷ more)) ≡ Some (name, names_text more)
unfolding first_name_at both_parts
first_again name more is =
    cut_here (name_length (name ++ names_text more)) name (names_text more)
    (length_before name more (name_lacks 47 name (omega arith) is)) is

pub no_first : first_name_at [] ≡ None
unfolding first_name_at
no_first = refl

-- ---- the names that were read so far

-- of names that fit, those that are still to be read
pub record Remain (read names : List Text) (rest : Text) : Type 0 where
  pub more : List Text
  pub is : names ≡ read ++ more
  pub named : AllByRecursion IsName more
  pub text : rest ≡ names_text more

pub record SoFar (known now : List Text) (text rest : Text) (path : Path) : Type 0 where
  pub short : path.len ≤ 9
  pub counted : length (path_names now path) ≡ path.len
  pub named : AllByRecursion IsName (path_names now path)
  pub told : text ≡ names_text (path_names now path) ++ rest
  pub added : now ≡ with_names known (path_names now path)
  pub few : length now ≤ 2 ^ 16
  pub inside : AreIn now (take path.len path.names)
  pub back : (names : List Text) → FitIn known names → text ≡ names_text names
      → Remain (path_names now path) names rest

abbrev pub no_places : Path
no_places = record { len = 0; names = 0 ∷ 0 ∷ 0 ∷ 0 ∷ 0 ∷ 0 ∷ 0 ∷ 0 ∷ 0 ∷ [] }

pub none_yet : (known : List Text) (text : Text) → length known ≤ 2 ^ 16
    → SoFar known known text text no_places
none_yet known text few = record {
  short = omega arith;
  counted = refl;
  named = tt;
  told = refl;
  added = refl;
  few = few;
  inside = tt;
  back = λ names fit e. record { more = names; is = refl; named = fit.0.1; text = e };
}

some_first : (a b : Text × Text) → Some a ≡ Some b → a ≡ b
some_first a b e = cc

-- the next name is the first that is still to be read
next_is : (read names : List Text) (rest name behind : Text) → Remain read names rest
    → first_name_at rest ≡ Some (name, behind) → Remain (read ++ name ∷ []) names behind
next_is read names rest name behind r first = by_more r.more r.is r.named r.text
  where
    by_more : (more : List Text) → names ≡ read ++ more → AllByRecursion IsName more → rest ≡ names_text more
        → Remain (read ++ name ∷ []) names behind
    by_more [] is named text =
        absurd (let e = sym first ∙ ap first_name_at text ∙ no_first in cc)
    by_more (m ∷ more) is named text =
        let same = some_first (name, behind) (m, names_text more) (sym first ∙ ap first_name_at text
        ∙ first_again m more named.0) in record {
          more = more;
          is = is ∙ ap (λ (n : Text). read ++ n ∷ more) (sym (ap (λ (p : Text × Text). p.0) same))
              ∙ sym (append_assoc read (name ∷ []) more);
          named = named.1;
          text = ap (λ (p : Text × Text). p.1) same;
        }

with_one_more : (known names : List Text) (name : Text)
    → with_names known (names ++ name ∷ []) ≡ with_name (with_names known names) name
with_one_more known [] name = refl
with_one_more known (n ∷ names) name = with_one_more (with_name known n) names name

in_more : (known : List Text) (places : List ℕ) (place : ℕ) → AreIn known places → place < length known
    → AreIn known (places ++ place ∷ [])
in_more known places place are lt = all_append (λ p. p < length known) places (place ∷ []) are (lt, tt)

text_more : (names : List Text) (name behind : Text)
    → names_text names ++ (codes "/" ++ (name ++ behind)) ≡ names_text (names ++ name ∷ []) ++ behind
text_more names name behind =
    sym (append_assoc (names_text names) (codes "/" ++ name) behind
    ∙ refl) ∙ ap (λ (t : Text). t ++ behind) (sym (flat_map-append (λ n. codes "/" ++ n) names (name ∷ [])
    ∙ ap (λ (t : Text). names_text names ++ t) (append-nil (codes "/" ++ name))))

-- a place was put behind the others
pub record Pushed (old new : Path) (place : ℕ) : Type 0 where
  pub len : new.len ≡ old.len + 1
  pub places : take new.len new.names ≡ take old.len old.names ++ place ∷ []

-- what was found first, and its place
pub record Found (now new : List Text) (rest name behind : Text) (place : ℕ) : Type 0 where
  pub first : first_name_at rest ≡ Some (name, behind)
  pub is : IsName name
  pub told : rest ≡ codes "/" ++ (name ++ behind)
  pub added : new ≡ with_name now name
  pub inside : place < length new
  pub named : get_or new place [] ≡ name

names_more : (now new : List Text) (old path : Path) (rest name behind : Text) (place : ℕ)
    → Found now new rest name behind place → Pushed old path place → AreIn now (take old.len old.names)
    → path_names new path ≡ path_names now old ++ name ∷ []
names_more now new old path rest name behind place f p inside =
    ap (named_at new) p.places ∙ map-append (λ k. get_or new k []) (take old.len old.names) (place ∷ [])
    ∙ ap (λ (ns : List Text). named_at new (take old.len old.names) ++ ns)
    (ap (λ (n : Text). n ∷ []) f.named)
    ∙ ap (λ (ns : List Text). ns ++ name ∷ []) (grown_names now new (take old.len old.names)
    (subst (Grows now) (sym f.added) (name_grows now name)) inside)

pub one_more : (known now new : List Text) (text rest name behind : Text) (old path : Path) (place : ℕ)
    → SoFar known now text rest old → Found now new rest name behind place → Pushed old path place
    → old.len < 9 → length new ≤ 2 ^ 16 → SoFar known new text behind path
one_more known now new text rest name behind old path place s f p lt few =
    let names = names_more now new old path rest name behind place f p s.inside in
    let grows = subst (Grows now) (sym f.added) (name_grows now name) in
    let len = p.len in record {
      short = omega arith;
      counted = ap (λ (ns : List Text). length ns) names ∙ length-append (path_names now old) (name ∷ [])
          ∙ (let c = s.counted in omega arith);
      named = subst (AllByRecursion IsName) (sym names) (all_append IsName (path_names now old) (name ∷ [])
          s.named (f.is, tt));
      told = s.told ∙ ap (λ (t : Text). names_text (path_names now old) ++ t) f.told
          ∙ text_more (path_names now old) name behind
          ∙ ap (λ (ns : List Text). names_text ns ++ behind) (sym names);
      added = f.added ∙ ap (λ (ns : List Text). with_name ns name) s.added
          ∙ sym (with_one_more known (path_names now old) name)
          ∙ ap (with_names known) (sym names);
      few = few;
      inside = subst (AreIn new) (sym p.places) (in_more new (take old.len old.names) place
          (grown_in now new (take old.len old.names) grows s.inside) f.inside);
      back = λ ns fit e. subst (λ (read : List Text). Remain read ns behind) (sym names)
          (next_is (path_names now old) ns rest name behind (s.back ns fit e) f.first);
    }

-- ---- where no path is read

abbrev pub NoneFit : (known : List Text) (text : Text) → Type 0
NoneFit known text = (names : List Text) → FitIn known names → text ≡ names_text names → ⊥

-- a tenth name
pub too_long : (known now : List Text) (text rest name behind : Text) (path : Path)
    → SoFar known now text rest path → first_name_at rest ≡ Some (name, behind) → path.len ≡ 9
    → NoneFit known text
too_long known now text rest name behind path s first nine = λ names fit e.
    let r = next_is (path_names now path) names rest name behind (s.back names fit e) first in
    let most : length names ≤ 9 = fit.0.0.1 in
    let len = ap (λ (ns : List Text). length ns) r.is
    ∙ length-append (path_names now path ++ name ∷ []) r.more in
    let first_len = length-append (path_names now path) (name ∷ []) in
    let c = s.counted in omega (arith, len, first_len, c, nine, most)

names_split : (known read more : List Text)
    → with_names known (read ++ more) ≡ with_names (with_names known read) more
names_split known [] more = refl
names_split known (n ∷ read) more = names_split (with_name known n) read more

-- a name too many
pub too_many : (known now new : List Text) (text rest name behind : Text) (path : Path)
    → SoFar known now text rest path → first_name_at rest ≡ Some (name, behind) → new ≡ with_name now name
    → 2 ^ 16 < length new → NoneFit known text
too_many known now new text rest name behind path s first added many = λ names fit e.
    let r = next_is (path_names now path) names rest name behind (s.back names fit e) first in
    let few : length (with_names known names) ≤ 2 ^ 16 = fit.1 in
    let is : with_names known names ≡ with_names new r.more =
    ap (with_names known) r.is ∙ names_split known (path_names now path ++ name ∷ []) r.more
    ∙ ap (λ (ns : List Text). with_names ns r.more) (with_one_more known (path_names now path) name
    ∙ ap (λ (ns : List Text). with_name ns name) (sym s.added) ∙ sym added) in
    let grown = grown_length new (with_names new r.more) (names_grow new r.more) in
    let same = ap (λ (ns : List Text). length ns) is in omega (arith, same, grown, few, many)

-- all names were read
none_left : (read names : List Text) (rest : Text) → Remain read names rest → first_name_at rest ≡ None
    → (names ≡ read) × (rest ≡ [])
none_left read names rest r none = by_more r.more r.is r.named r.text
  where
    by_more : (more : List Text) → names ≡ read ++ more → AllByRecursion IsName more → rest ≡ names_text more
        → (names ≡ read) × (rest ≡ [])
    by_more [] is named text = (is ∙ append-nil read, text)
    by_more (m ∷ more) is named text =
        absurd (let e = sym none ∙ ap first_name_at text ∙ first_again m more named.0 in cc)

pub not_ended : (known now : List Text) (text rest : Text) (path : Path) → SoFar known now text rest path
    → first_name_at rest ≡ None → (rest ≡ [] → 0 < path.len → ⊥) → NoneFit known text
not_ended known now text rest path s none other = λ names fit e.
    let l = none_left (path_names now path) names rest (s.back names fit e) none in
    let some : 1 ≤ length names = fit.0.0.0 in
    let same = ap (λ (ns : List Text). length ns) l.0 in
    let c = s.counted in other l.1 (omega (arith, same, some, c))

pub all_read : (known now : List Text) (text rest : Text) (path : Path) → SoFar known now text rest path
    → rest ≡ [] → 0 < path.len → IsPathRead known now text path
all_read known now text rest path s end some =
    let c = s.counted in
    let short = s.short in record {
      short = s.short;
      is = ((omega arith, omega arith), s.named);
      told = s.told ∙ ap (λ (t : Text). names_text (path_names now path) ++ t) end
          ∙ append-nil (names_text (path_names now path));
      added = s.added;
      few = s.few;
      inside = s.inside;
    }

pub is_none : (text : Text) → true ≡ (length text == 0) → text ≡ []
is_none [] e = refl
is_none (b ∷ bs) e =
    absurd (let f : suc (length bs) ≡ 0 = eqb-true (suc (length bs)) 0 (sym e) in omega (arith, f))
