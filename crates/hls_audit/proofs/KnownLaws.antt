-- An index that follows a tree of names.
use Rattle.std.proofs.Common.{◌≡◌, ◌≢◌, List, [], ◌∷◌, ◌++◌, Option, Some, None, Bool, true, false}
use Rattle.std.proofs.Common.{refl, ap, sym, ◌∙◌, inl, inr}
use Rattle.std.specs.Prelude.{cond, not, find, is_some}
use Rattle.std.specs.Str.{bytes_eq}
use Rattle.std.proofs.lemmas.Bool.{cases_Bool}
use Rattle.std.proofs.lemmas.Slice.Eq.{bytes_eq-Decides}
use Rattle.hls_text.specs.Lines.{Text}
use Rattle.hls_audit_clauses.specs.declared.member.Member.{Member}
use Rattle.hls_audit_clauses.specs.Names.{has_name, member_of, without}
use Rattle.hls_audit.specs.declared.known.Known.{Known}
use Rattle.hls_audit.specs.Inside.Known.{known_as, IsIndex}

-- ---- who is found in a tree that has changed

-- the one found, or else the other
either : {X : Type 0} → Option X → Option X → Option X
either None other = other
either (Some x) other = Some x

chosen_more : {X : Type 0} (b : Bool) (x : X) (found other : Option X)
    → cond b (Some x) (either found other) ≡ either (cond b (Some x) found) other
unfolding either
chosen_more true x found other = refl
chosen_more false x found other = refl

found_more : (test : Member → Bool) (tree : List Member) (m : Member)
    → find test (tree ++ m ∷ []) ≡ either (find test tree) (cond (test m) (Some m) None)
unfolding either
found_more test [] m = refl
found_more test (x ∷ tree) m =
    ap (λ found. cond (test x) (Some x) found) (found_more test tree m)
    ∙ chosen_more (test x) x (find test tree) (cond (test m) (Some m) None)

chosen_none : {X : Type 0} (b : Bool) (x : X) → b ≡ false → cond b (Some x) None ≡ None
chosen_none true x e = absurd (cc)
chosen_none false x e = refl

chosen_some : {X : Type 0} (b : Bool) (x : X) → b ≡ true → cond b (Some x) None ≡ Some x
chosen_some true x e = refl
chosen_some false x e = absurd (cc)

either_none : {X : Type 0} (found : Option X) → either found None ≡ found
unfolding either
either_none None = refl
either_none (Some x) = refl

either_same : {X : Type 0} (found other : Option X) → is_some found ≡ true → either found other ≡ found
unfolding either
either_same None other e = absurd (cc)
either_same (Some y) other e = refl

name_apart : (m : Member) (name : Text) → name ≢ m.name → has_name name m ≡ false
name_apart m name ne = elim (cases_Bool (has_name name m)) [
  | inl t ↦ absurd (ne (sym ((bytes_eq-Decides m.name name).0 t)))
  | inr f ↦ f
]

-- another name is found as before
others_more : (tree : List Member) (m : Member) (name : Text) → name ≢ m.name
    → member_of (tree ++ m ∷ []) name ≡ member_of tree name
others_more tree m name ne =
    found_more (has_name name) tree m
    ∙ ap (either (member_of tree name)) (chosen_none (has_name name m) m (name_apart m name ne))
    ∙ either_none (member_of tree name)

-- a name that somebody has is found as before
again_more : (tree : List Member) (m : Member) (name : Text) → is_some (member_of tree name) ≡ true
    → member_of (tree ++ m ∷ []) name ≡ member_of tree name
again_more tree m name is =
    found_more (has_name name) tree m
    ∙ either_same (member_of tree name) (cond (has_name name m) (Some m) None) is

-- a name that nobody had is found with who comes
new_more : (tree : List Member) (m : Member) → member_of tree m.name ≡ None
    → member_of (tree ++ m ∷ []) m.name ≡ Some m
unfolding either
new_more tree m none =
    found_more (has_name m.name) tree m
    ∙ ap (λ found. either found (cond (has_name m.name m) (Some m) None)) none
    ∙ chosen_some (has_name m.name m) m ((bytes_eq-Decides m.name m.name).1 refl)

-- ---- the index

is_none : {X : Type 0} (found : Option X) → is_some found ≡ false → found ≡ None
is_none None e = refl
is_none (Some x) e = absurd (cc)

-- a name that is noted as new
pub index_new : (known new : Known) (tree : List Member) (m : Member) → IsIndex known tree
    → is_some (known_as known m.name) ≡ false → known_as new m.name ≡ Some m
    → ((other : Text) → other ≢ m.name → known_as new other ≡ known_as known other)
    → IsIndex new (tree ++ m ∷ [])
index_new known new tree m is off here others name = elim (cases_Bool (has_name name m)) [
  | inl t ↦ (let same : m.name ≡ name = (bytes_eq-Decides m.name name).0 t in
      let none : member_of tree m.name ≡ None = sym (is m.name) ∙ is_none (known_as known m.name) off in
      ap (known_as new) (sym same) ∙ here ∙ sym (new_more tree m none) ∙ ap (member_of (tree ++ m ∷ [])) same)
  | inr f ↦ (let ne : name ≢ m.name = (λ e. absurd (cc (sym f ∙ (bytes_eq-Decides m.name name).1 (sym e)))) in
      others name ne ∙ is name ∙ sym (others_more tree m name ne))
]

-- a name that is there already
pub index_again : (known : Known) (tree : List Member) (m : Member) → IsIndex known tree
    → is_some (known_as known m.name) ≡ true → IsIndex known (tree ++ m ∷ [])
index_again known tree m is there name = elim (cases_Bool (has_name name m)) [
  | inl t ↦ (let same : m.name ≡ name = (bytes_eq-Decides m.name name).0 t in
      let found : is_some (member_of tree name) ≡ true =
      ap is_some (sym (is name) ∙ ap (known_as known) (sym same)) ∙ there in
      is name ∙ sym (again_more tree m name found))
  | inr f ↦ (let ne : name ≢ m.name = (λ e. absurd (cc (sym f ∙ (bytes_eq-Decides m.name name).1 (sym e)))) in
      is name ∙ sym (others_more tree m name ne))
]

-- ---- who is gone

gone_name : (name : Text) (tree : List Member) → member_of (without name tree) name ≡ None
gone_name name [] = refl
gone_name name (m ∷ tree) = gone_at (has_name name m) name m (without name tree) refl (gone_name name tree)
  where
    gone_at : (b : Bool) (n : Text) (x : Member) (rest : List Member) → has_name n x ≡ b → member_of rest n ≡ None
        → member_of (cond (not b) (x ∷ rest) rest) n ≡ None
    gone_at true n x rest is none = none
    gone_at false n x rest is none = ap (λ b. cond b (Some x) (member_of rest n)) is ∙ none

stays_name : (gone name : Text) (tree : List Member) → name ≢ gone
    → member_of (without gone tree) name ≡ member_of tree name
stays_name gone name [] ne = refl
stays_name gone name (m ∷ tree) ne =
    stays_at (has_name gone m) gone name m (without gone tree) (member_of tree name) refl ne
    (stays_name gone name tree ne)
  where
    stays_at : (b : Bool) (g n : Text) (x : Member) (rest : List Member) (found : Option Member) → has_name g x ≡ b
        → n ≢ g → member_of rest n ≡ found
        → member_of (cond (not b) (x ∷ rest) rest) n ≡ cond (has_name n x) (Some x) found
    stays_at true g n x rest found is apart same =
        let at : x.name ≡ g = (bytes_eq-Decides x.name g).0 is in
        let off : has_name n x ≡ false = name_apart x n (λ e. apart (e ∙ at)) in
        same ∙ sym (ap (λ b. cond b (Some x) found) off)
    stays_at false g n x rest found is apart same = ap (λ rest. cond (has_name n x) (Some x) rest) same

pub index_gone : (known new : Known) (tree : List Member) (gone : Text) → IsIndex known tree
    → known_as new gone ≡ None → ((other : Text) → other ≢ gone → known_as new other ≡ known_as known other)
    → IsIndex new (without gone tree)
index_gone known new tree gone is none others name = elim (cases_Bool (bytes_eq gone name)) [
  | inl t ↦ (let same : gone ≡ name = (bytes_eq-Decides gone name).0 t in
      ap (known_as new) (sym same) ∙ none ∙ sym (gone_name gone tree) ∙ ap (member_of (without gone tree)) same)
  | inr f ↦ (let ne : name ≢ gone = (λ e. absurd (cc (sym f ∙ (bytes_eq-Decides gone name).1 (sym e)))) in
      others name ne ∙ is name ∙ sym (stays_name gone name tree ne))
]
