-- A label reads as itself, and so does a way. Joins read alike, however many ports they have.
use Rattle.std.proofs.Common.{◌≡◌, ◌≢◌, ◌⊎◌, List, [], ◌∷◌, Bool, true, false, ◌&&◌, inl, inr, arith}
use Rattle.std.proofs.Common.{refl, ap, sym, subst, ◌∙◌}
use Rattle.std.specs.Prelude.{Some}
use Rattle.std.specs.Str.{bytes_eq}
use Rattle.std.proofs.lemmas.Bool.{and_from, and_parts, or_cases, or_left, or_right}
use Rattle.std.proofs.lemmas.Grind.{common_steps}
use Rattle.hls_text.specs.Lines.{Text}
use Rattle.hls_chron.specs.declared.plain.Terms.{Terms}
use Rattle.hls_chron.specs.declared.plain.Terms.TheVariants as t
use Rattle.hls_chron.specs.declared.plain.Kind.TheVariants as kinds
use Rattle.hls_chron.specs.declared.plain.Config.{Config}
use Rattle.hls_chron.specs.declared.plain.Config.TheVariants as k
use Rattle.hls_chron.specs.declared.plain.Sharing.{Sharing}
use Rattle.hls_chron.specs.Kinds.{kind_of, by_shares}
use Rattle.hls_chron.proofs.ConfigLaws.{by_kind, sharing_or_not}
use Rattle.hls_chron.specs.contracts.plain.TermsPartialEq.TheImpl as terms
use Rattle.hls_chron.specs.contracts.plain.ConfigPartialEq.TheImpl as configs
use Rattle.hls_guarantee.specs.declared.Guarantee.{Guarantee}
use Rattle.hls_guarantee.specs.contracts.GuaranteePartialEq.TheImpl as guarantees
use Rattle.hls_audit_clauses.specs.declared.member.Sort.{Sort}
use Rattle.hls_audit_clauses.specs.declared.member.Sort.TheVariants.{Scheduler, Thread}
use Rattle.hls_audit_clauses.specs.contracts.member.SortPartialEq.TheImpl as sorts
use Rattle.hls_audit_clauses.specs.Names.{is_thread_sort, is_join_sort}
use Rattle.hls_rules.proofs.Equal.{equal-self, equal-same}
use Rattle.hls_audit_stays.proofs.Names.{bytes_self, bytes_back, bytes_same}
use Rattle.hls_view_tale.specs.declared.label.Label.{Label}
use Rattle.hls_view_lanes.specs.Likeness.{is_like_sort, is_like, begins, is_same}

terms-self : (s : Terms) → terms.eq-value.it s s ≡ true
terms-self t.Cpu = refl
terms-self (t.Prio n) = grind (arith, common_steps)
terms-self (t.Res hard x y) = grind (arith, common_steps)
terms-self (t.Weight n) = grind (arith, common_steps)
terms-self (t.Slots n) = grind (arith, common_steps)
terms-self t.Turn = refl
terms-self t.Sole = refl

config-self : (c : Config) → configs.eq-value.it c c ≡ true
config-self =
    by_kind (λ c. configs.eq-value.it c c ≡ true) refl refl refl (λ sharing. grind (arith, common_steps))
    (λ quantum. grind (arith, common_steps)) (λ frame. grind (arith, common_steps))
    (λ ports. grind (arith, common_steps))

sort-self : (s : Sort) → sorts.eq-value.it s s ≡ true
sort-self (Scheduler config) = config-self config
sort-self Thread = refl

abbrev two-joins : (a b : Sort) → Bool
two-joins a b = is_join_sort (Some a) && is_join_sort (Some b)

like-if-same : (a b : Sort) → a ≡ b → is_like_sort a b ≡ true
like-if-same a b e =
    or_left (sorts.eq-value.it a b) (two-joins a b)
    (ap (λ (s : Sort). sorts.eq-value.it s b) e ∙ sort-self b)

four : (a b c d : Bool) → a ≡ true → b ≡ true → c ≡ true → d ≡ true → (a && b && c && d) ≡ true
four true true true d ea eb ec ed = ed
four true true false d ea eb ec ed = ec
four true false c d ea eb ec ed = eb
four false b c d ea eb ec ed = ea

like-self : (l : Label) → is_like l l ≡ true
like-self l =
    four (bytes_eq l.name l.name) (is_like_sort l.sort l.sort) (terms.eq-value.it l.terms l.terms)
    (guarantees.eq-value.it l.kept l.kept) (bytes_self l.name) (like-if-same l.sort l.sort refl) (terms-self l.terms)
    (equal-self l.kept)

pub begins-self : (way : List Label) → begins way way ≡ true
begins-self [] = refl
begins-self (l ∷ way) = ap (λ b. b && begins way way) (like-self l) ∙ begins-self way

pub same-self : (way : List Label) → is_same way way ≡ true
same-self way = ap (λ b. b && begins way way) (begins-self way) ∙ begins-self way

-- ---- labels that read alike

terms-same : (a b : Terms) → terms.eq-value.it a b ≡ true → a ≡ b
terms-same t.Cpu t.Cpu e = refl
terms-same (t.Prio m) (t.Prio n) e = grind (arith, common_steps)
terms-same (t.Res hard x y) (t.Res rigid u v) e = grind (arith, common_steps)
terms-same (t.Weight m) (t.Weight n) e = grind (arith, common_steps)
terms-same (t.Slots m) (t.Slots n) e = grind (arith, common_steps)
terms-same t.Turn t.Turn e = refl
terms-same t.Sole t.Sole e = refl
terms-same a b e = cc

abbrev AreSame : (a b : Config) → Type 0
AreSame a b = configs.eq-value.it a b ≡ true → a ≡ b

sharing-same : (s : Sharing) (b : Config) → AreSame (by_shares s) b
sharing-same s =
    by_kind (AreSame (by_shares s)) (λ e. cc) (λ e. cc) (λ e. cc) (λ other e. grind (arith, common_steps))
    (λ quantum e. cc) (λ frame e. cc) (λ ports e. cc)

never : (a b : Config) → kind_of a ≢ kinds.Sfq → kind_of a ≡ kinds.Sfq → a ≡ b
never a b ne is = absurd (ne is)

other-same : (a b : Config) → kind_of a ≢ kinds.Sfq → AreSame a b
other-same k.Cpu k.Cpu ne e = refl
other-same k.Fp k.Fp ne e = refl
other-same k.Edf k.Edf ne e = refl
other-same (k.Rr m) (k.Rr n) ne e = grind (arith, common_steps)
other-same (k.Wheel m) (k.Wheel n) ne e = grind (arith, common_steps)
other-same (k.Join m) (k.Join n) ne e = grind (arith, common_steps)
other-same a b ne e = first_of (search (never, refl), cc)

config-same : (a b : Config) → AreSame a b
config-same a b =
    sharing_or_not (λ c. AreSame c b) (λ sharing. sharing-same sharing b) (λ c ne. other-same c b ne) a

sort-same : (a b : Sort) → sorts.eq-value.it a b ≡ true → a ≡ b
sort-same (Scheduler one) (Scheduler other) e = ap (λ (c : Config). Scheduler c) (config-same one other e)
sort-same Thread Thread e = refl
sort-same a b e = cc

-- sorts that read alike are the same, or two joins
abbrev AreSorts : (a b : Sort) → Type 0
AreSorts a b = (a ≡ b) ⊎ ((is_join_sort (Some a) ≡ true) × (is_join_sort (Some b) ≡ true))

like-sorts : (a b : Sort) → is_like_sort a b ≡ true → AreSorts a b
like-sorts a b e = elim (or_cases (sorts.eq-value.it a b) (two-joins a b) e) [
  | inl same ↦ inl (sort-same a b same)
  | inr joins ↦ inr (and_parts (is_join_sort (Some a)) (is_join_sort (Some b)) joins)
]

like-if-joins : (a b : Sort) → is_join_sort (Some a) ≡ true → is_join_sort (Some b) ≡ true → is_like_sort a b ≡ true
like-if-joins a b one other =
    or_right (sorts.eq-value.it a b) (two-joins a b)
    (and_from (is_join_sort (Some a)) (is_join_sort (Some b)) one other)

sort-turned : (a b : Sort) → is_like_sort a b ≡ true → is_like_sort b a ≡ true
sort-turned a b e = elim (like-sorts a b e) [
  | inl same ↦ like-if-same b a (sym same)
  | inr joins ↦ like-if-joins b a joins.1 joins.0
]

sort-through : (a b c : Sort) → is_like_sort a b ≡ true → is_like_sort b c ≡ true → is_like_sort a c ≡ true
sort-through a b c e f = elim (like-sorts a b e) [
  | inl same ↦ ap (λ (s : Sort). is_like_sort s c) same ∙ f
  | inr joins ↦ elim (like-sorts b c f) [
    | inl same ↦ ap (λ (s : Sort). is_like_sort a s) (sym same) ∙ e
    | inr more ↦ like-if-joins a c joins.0 more.1
  ]
]

no-thread : (a : Sort) → is_join_sort (Some a) ≡ true → is_thread_sort (Some a) ≡ false
no-thread (Scheduler config) e = refl
no-thread Thread e = absurd (let no : false ≡ true = e in cc)

-- both end in a thread, or none does
pub same-thread : (a b : Sort) → is_like_sort a b ≡ true → is_thread_sort (Some a) ≡ is_thread_sort (Some b)
same-thread a b e = elim (like-sorts a b e) [
  | inl same ↦ ap (λ (s : Sort). is_thread_sort (Some s)) same
  | inr joins ↦ no-thread a joins.0 ∙ sym (no-thread b joins.1)
]

pub first-of : (a b : Bool) → (a && b) ≡ true → a ≡ true
first-of true b e = refl
first-of false b e = absurd (let no : false ≡ true = e in cc)

pub second-of : (a b : Bool) → (a && b) ≡ true → b ≡ true
second-of true b e = e
second-of false b e = absurd (let no : false ≡ true = e in cc)

pub record AreAlike (l m : Label) : Type 0 where
  pub name : bytes_eq l.name m.name ≡ true
  pub sort : is_like_sort l.sort m.sort ≡ true
  pub terms : l.terms ≡ m.terms
  pub kept : l.kept ≡ m.kept

pub like-parts : (l m : Label) → is_like l m ≡ true → AreAlike l m
like-parts l m e =
    let n = bytes_eq l.name m.name in
    let s = is_like_sort l.sort m.sort in
    let t = terms.eq-value.it l.terms m.terms in
    let g = guarantees.eq-value.it l.kept m.kept in
    let three = first-of (n && s && t) g e in
    let two = first-of (n && s) t three in
    record {
      name = first-of n s two;
      sort = second-of n s two;
      terms = terms-same l.terms m.terms (second-of (n && s) t three);
      kept = equal-same l.kept m.kept (second-of (n && s && t) g e);
    }

pub like-turned : (l m : Label) → is_like l m ≡ true → is_like m l ≡ true
like-turned l m e =
    let alike = like-parts l m e in
    four (bytes_eq m.name l.name) (is_like_sort m.sort l.sort) (terms.eq-value.it m.terms l.terms)
    (guarantees.eq-value.it m.kept l.kept)
    (bytes_back m.name l.name ∙ alike.name)
    (sort-turned l.sort m.sort alike.sort)
    (subst (λ (s : Terms). terms.eq-value.it m.terms s ≡ true) (sym alike.terms) (terms-self m.terms))
    (subst (λ (g : Guarantee). guarantees.eq-value.it m.kept g ≡ true) (sym alike.kept) (equal-self m.kept))

pub like-through : (l m n : Label) → is_like l m ≡ true → is_like m n ≡ true → is_like l n ≡ true
like-through l m n e f =
    let one = like-parts l m e in
    let two = like-parts m n f in
    four (bytes_eq l.name n.name) (is_like_sort l.sort n.sort) (terms.eq-value.it l.terms n.terms)
    (guarantees.eq-value.it l.kept n.kept)
    (ap (λ (x : Text). bytes_eq x n.name) (bytes_same l.name m.name one.name) ∙ two.name)
    (sort-through l.sort m.sort n.sort one.sort two.sort)
    (ap (λ (s : Terms). terms.eq-value.it s n.terms) (one.terms ∙ two.terms) ∙ terms-self n.terms)
    (ap (λ (g : Guarantee). guarantees.eq-value.it g n.kept) (one.kept ∙ two.kept) ∙ equal-self n.kept)
