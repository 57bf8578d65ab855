-- Trees of names in which no name stands twice, and whoever sits on a name sits on a scheduler, which stands higher.
use Rattle.std.proofs.Common.{◌≡◌, ℕ, ◌<◌, List, [], ◌∷◌, ◌++◌, Bool, true, false, not, inl, inr}
use Rattle.std.proofs.Common.{refl, sym, ap, subst, ◌∙◌, cond, map}
use Rattle.std.specs.Prelude.{Option, Some, None, is_some}
use Rattle.std.specs.Str.{bytes_eq}
use Rattle.std.proofs.lemmas.Bool.{not-true}
use Rattle.hls_text.specs.Lines.{Text}
use Rattle.hls_scenario.specs.declared.scenario.Spot.{Spot}
use Rattle.hls_scenario.specs.declared.scenario.Spot.TheVariants.{Cpu, Under}
use Rattle.hls_scenario.specs.declared.scenario.Perch.{Perch}
use Rattle.hls_audit_clauses.specs.declared.member.Sort.{Sort}
use Rattle.hls_audit_clauses.specs.declared.member.Sort.TheVariants.{Scheduler, Thread}
use Rattle.hls_audit_clauses.specs.declared.member.Member.{Member}
use Rattle.hls_audit_clauses.specs.Names.{has_name, member_of, without, is_there, sort_of, is_scheduler_sort}
use Rattle.hls_audit_clauses.specs.Names.{is_thread_sort, is_scheduler, is_thread}
use Rattle.hls_audit_stays.proofs.Names.{bytes_same, bytes_self, bytes_apart}
use Rattle.hls_view_place_laws.proofs.Among.{IsIn, AreOnce, in-front, in-back, in-map, of-map}
use Rattle.hls_view_place_laws.proofs.Among.{in-filter, of-filter, once-same}

abbrev pub names_of : List Member → List Text
names_of tree = map (λ (m : Member). m.name) tree

-- somebody of a name and of such a sort
pub record Has (is : Member → Bool) (tree : List Member) (name : Text) : Type 0 where
  pub member : Member
  pub there : IsIn member tree
  pub named : member.name ≡ name
  pub such : is member ≡ true

abbrev pub schedules : Member → Bool
schedules m = is_scheduler_sort (Some m.sort)

abbrev pub runs : Member → Bool
runs m = is_thread_sort (Some m.sort)

-- a seat is at the processor or on a scheduler
abbrev pub IsSeatable : List Member → Spot → Type 0
IsSeatable tree Cpu = Unit {0}
IsSeatable tree (Under sched terms) = Has schedules tree sched

-- which is of lower rank
abbrev pub SitsWell : List Member → (rank : Text → ℕ) → (name : Text) → Spot → Type 0
SitsWell tree rank name Cpu = Unit {0}
SitsWell tree rank name (Under sched terms) = Has schedules tree sched × (rank sched < rank name)

pub record IsRanked (tree : List Member) (rank : Text → ℕ) : Type 0 where
  pub once : AreOnce (names_of tree)
  pub seats : (m : Member) (perch : Perch) → IsIn m tree → IsIn perch m.perches
      → SitsWell tree rank m.name perch.spot

pub record IsTree (tree : List Member) : Type 0 where
  pub rank : Text → ℕ
  pub ranked : IsRanked tree rank

-- ---- who has a name

pub named-in : (m : Member) (tree : List Member) → IsIn m tree → IsIn m.name (names_of tree)
named-in m tree has = in-map (λ (k : Member). k.name) m tree has

pub has-named : {is : Member → Bool} {tree : List Member} {name : Text} → Has is tree name
    → IsIn name (names_of tree)
has-named {tree = tree} h = subst (λ (n : Text). IsIn n (names_of tree)) h.named (named-in h.member tree h.there)

pub record IsFound (tree : List Member) (name : Text) (m : Member) : Type 0 where
  pub there : IsIn m tree
  pub named : m.name ≡ name

pub found : (tree : List Member) (name : Text) (m : Member) → member_of tree name ≡ Some m → IsFound tree name m
found [] name m e = absurd (cc)
found (k ∷ tree) name m e = by (has_name name k) refl (λ f. found tree name m f) e
  where
    by : (b : Bool) → has_name name k ≡ b → (member_of tree name ≡ Some m → IsFound tree name m)
        → cond b (Some k) (member_of tree name) ≡ Some m → IsFound (k ∷ tree) name m
    by true is more e =
        let same : k ≡ m = cc in
        record { there = inl same; named = ap (λ (n : Member). n.name) (sym same) ∙ bytes_same k.name name is }
    by false is more e = let f = more e in record { there = inr f.there; named = f.named }

pub member-found : (tree : List Member) (m : Member) → AreOnce (names_of tree) → IsIn m tree
    → member_of tree m.name ≡ Some m
member-found [] m once has = absurd has
member-found (k ∷ tree) m once (inl is) =
    ap (λ b. cond b (Some k) (member_of tree m.name))
    (ap (λ (n : Text). bytes_eq k.name n) (ap (λ (n : Member). n.name) (sym is)) ∙ bytes_self k.name)
    ∙ ap (λ (n : Member). Some n) is
member-found (k ∷ tree) m once (inr has) =
    ap (λ b. cond b (Some k) (member_of tree m.name))
    (bytes_apart k.name m.name
    (λ e. once.0 (subst (λ (n : Text). IsIn n (names_of tree)) (sym e) (named-in m tree has))))
    ∙ member-found tree m once.1 has

-- somebody found passes a test
passing : (is : Member → Bool) (test : Option Member → Bool) (tree : List Member) (name : Text) (o : Option Member)
    → member_of tree name ≡ o → (test None ≡ true → ⊥) → ((m : Member) → test (Some m) ≡ true → is m ≡ true)
    → test o ≡ true → Has is tree name
passing is test tree name None e none on passes = absurd (none passes)
passing is test tree name (Some m) e none on passes =
    let f = found tree name m e in
    record { member = m; there = f.there; named = f.named; such = on m passes }

pub scheduler-has : (tree : List Member) (name : Text) → is_scheduler tree name ≡ true → Has schedules tree name
scheduler-has tree name e =
    passing schedules (λ o. is_scheduler_sort (sort_of o)) tree name (member_of tree name) refl
    (λ e. (let wrong : false ≡ true = e in cc)) (λ m on. on) e

pub thread-has : (tree : List Member) (name : Text) → is_thread tree name ≡ true → Has runs tree name
thread-has tree name e =
    passing runs (λ o. is_thread_sort (sort_of o)) tree name (member_of tree name) refl
    (λ e. (let wrong : false ≡ true = e in cc)) (λ m on. on) e

pub has-there : {is : Member → Bool} {tree : List Member} {name : Text} → AreOnce (names_of tree)
    → (h : Has is tree name) → member_of tree name ≡ Some h.member
has-there {tree = tree} once h =
    ap (member_of tree) (sym h.named) ∙ member-found tree h.member once h.there

pub has-scheduler : (tree : List Member) (name : Text) → AreOnce (names_of tree) → Has schedules tree name
    → is_scheduler tree name ≡ true
has-scheduler tree name once h = ap (λ o. is_scheduler_sort (sort_of o)) (has-there once h) ∙ h.such

pub has-thread : (tree : List Member) (name : Text) → AreOnce (names_of tree) → Has runs tree name
    → is_thread tree name ≡ true
has-thread tree name once h = ap (λ o. is_thread_sort (sort_of o)) (has-there once h) ∙ h.such

-- nobody has a name of whom nothing is found
pub nobody : (tree : List Member) (name : Text) → AreOnce (names_of tree) → is_there tree name ≡ false
    → IsIn name (names_of tree) → ⊥
nobody tree name once none has =
    let o = of-map (λ (m : Member). m.name) name tree has in
    let there : is_there tree name ≡ true =
    ap (λ (n : Text). is_there tree n) (sym o.is) ∙ ap is_some (member-found tree o.one once o.has) in
    let wrong : false ≡ true = sym none ∙ there in
    cc

sorts-apart : (m : Member) → schedules m ≡ true → runs m ≡ true → ⊥
sorts-apart m a b = by m.sort a b
  where
    by : (s : Sort) → is_scheduler_sort (Some s) ≡ true → is_thread_sort (Some s) ≡ true → ⊥
    by Thread a b = let wrong : false ≡ true = a in cc
    by (Scheduler config) a b = let wrong : false ≡ true = b in cc

-- nobody is both
pub not-both : (tree : List Member) (name : Text) → AreOnce (names_of tree) → Has schedules tree name
    → Has runs tree name → ⊥
not-both tree name once s t =
    let same : s.member ≡ t.member =
    once-same (λ (m : Member). m.name) tree s.member t.member once s.there t.there (s.named ∙ sym t.named) in
    sorts-apart s.member s.such (ap runs same ∙ t.such)

-- ---- those of another name

pub unnamed : (name : Text) (m : Member) → bytes_eq m.name name ≡ false → not (has_name name m) ≡ true
unnamed name m e = ap not e

pub in-without : (name : Text) (m : Member) (tree : List Member) → IsIn m tree → bytes_eq m.name name ≡ false
    → IsIn m (without name tree)
in-without name m tree has e = in-filter (λ (k : Member). not (has_name name k)) m tree has (unnamed name m e)

pub record IsOther (name : Text) (m : Member) (tree : List Member) : Type 0 where
  pub there : IsIn m tree
  pub other : bytes_eq m.name name ≡ false

pub of-without : (name : Text) (m : Member) (tree : List Member) → IsIn m (without name tree) → IsOther name m tree
of-without name m tree has =
    let l = of-filter (λ (k : Member). not (has_name name k)) m tree has in
    record { there = l.has; other = not-true (has_name name m) l.passes }

pub has-without : {is : Member → Bool} (tree : List Member) (name other : Text) → bytes_eq other name ≡ false
    → Has is tree other → Has is (without name tree) other
has-without tree name other e h = record {
  member = h.member;
  there = in-without name h.member tree h.there (ap (λ (n : Text). bytes_eq n name) h.named ∙ e);
  named = h.named;
  such = h.such;
}

pub has-front : {is : Member → Bool} (tree more : List Member) (name : Text) → Has is tree name
    → Has is (tree ++ more) name
has-front tree more name h = record {
  member = h.member;
  there = in-front h.member tree more h.there;
  named = h.named;
  such = h.such;
}

pub has-last : {is : Member → Bool} (tree : List Member) (m : Member) → is m ≡ true → Has is (tree ++ m ∷ []) m.name
has-last tree m e = record {
  member = m;
  there = in-back m tree (m ∷ []) (inl refl);
  named = refl;
  such = e;
}
