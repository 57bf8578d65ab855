-- A tree with one member more, or one less.
use Rattle.std.proofs.Common.{◌≡◌, ℕ, suc, ◌+◌, ◌<◌, List, [], ◌∷◌, ◌++◌, true, false, not, inl, inr}
use Rattle.std.proofs.Common.{refl, sym, ap, subst, ◌∙◌, cond, arith}
use Rattle.std.specs.Str.{bytes_eq}
use Rattle.hls_text.specs.Lines.{Text}
use Rattle.hls_scenario.specs.declared.scenario.Spot.{Spot}
use Rattle.hls_scenario.specs.declared.scenario.Spot.TheVariants.{Cpu, Under}
use Rattle.hls_scenario.specs.declared.scenario.Perch.{Perch}
use Rattle.hls_legal.specs.Under.{is_on}
use Rattle.hls_audit_clauses.specs.declared.member.Member.{Member}
use Rattle.hls_audit_clauses.specs.Names.{has_name, without}
use Rattle.hls_audit_stays.proofs.Names.{bytes_same, bytes_self, bytes_apart, bytes_back}
use Rattle.hls_view_place_laws.proofs.Among.{IsIn, in-either, once-left, once-push}
use Rattle.hls_view_place_laws.proofs.Seats.{names_of, Has, schedules, IsSeatable, SitsWell, IsRanked, IsTree}
use Rattle.hls_view_place_laws.proofs.Seats.{named-in, has-named, of-without, has-without, has-front}

-- a seat in one tree as in another, where what it is on has lower rank in both
pub sits-on : (tree new : List Member) (rank fresh : Text → ℕ) (name : Text) (spot : Spot)
    → SitsWell tree rank name spot
    → ((sched : Text) → is_on (λ other. bytes_eq other sched) spot ≡ true → Has schedules tree sched
    → rank sched < rank name → Has schedules new sched × (fresh sched < fresh name))
    → SitsWell new fresh name spot
sits-on tree new rank fresh name Cpu sits on = tt
sits-on tree new rank fresh name (Under sched terms) sits on = on sched (bytes_self sched) sits.0 sits.1

-- ---- the rank of what is new

pub spot_rank : (rank : Text → ℕ) → Spot → ℕ
spot_rank rank Cpu = 0
spot_rank rank (Under sched terms) = rank sched

above_all : (rank : Text → ℕ) → List Perch → ℕ
above_all rank [] = 0
above_all rank (perch ∷ perches) = suc (spot_rank rank perch.spot + above_all rank perches)

over : (rank : Text → ℕ) (perch : Perch) (perches : List Perch) → IsIn perch perches
    → spot_rank rank perch.spot < above_all rank perches
unfolding above_all
over rank perch [] has = absurd has
over rank perch (p ∷ perches) (inl is) =
    let e : spot_rank rank p.spot ≡ spot_rank rank perch.spot = ap (λ (q : Perch). spot_rank rank q.spot) is in
    omega (arith, e)
over rank perch (p ∷ perches) (inr has) = let rest = over rank perch perches has in omega (arith, rest)

-- a rank by which one name has another
pub ranked_as : (rank : Text → ℕ) → (name : Text) → (top : ℕ) → Text → ℕ
ranked_as rank name top other = cond (bytes_eq other name) top (rank other)

ranked-itself : (rank : Text → ℕ) (name : Text) (top : ℕ) → ranked_as rank name top name ≡ top
unfolding ranked_as
ranked-itself rank name top = ap (λ b. cond b top (rank name)) (bytes_self name)

ranked-other : (rank : Text → ℕ) (name : Text) (top : ℕ) (other : Text) → (other ≡ name → ⊥)
    → ranked_as rank name top other ≡ rank other
unfolding ranked_as
ranked-other rank name top other ne = ap (λ b. cond b top (rank other)) (bytes_apart other name ne)

not-named : (tree : List Member) (name other : Text) → (IsIn name (names_of tree) → ⊥)
    → IsIn other (names_of tree) → other ≡ name → ⊥
not-named tree name other new has e = new (subst (λ (n : Text). IsIn n (names_of tree)) e has)

new-sits : (tree new : List Member) (rank fresh : Text → ℕ) (name : Text) (spot : Spot) → IsSeatable tree spot
    → ((sched : Text) → Has schedules tree sched → spot_rank rank spot ≡ rank sched
    → Has schedules new sched × (fresh sched < fresh name))
    → SitsWell new fresh name spot
unfolding spot_rank
new-sits tree new rank fresh name Cpu seatable on = tt
new-sits tree new rank fresh name (Under sched terms) seatable on = on sched seatable refl

-- ---- one more, of a new name

pub joined : (tree : List Member) (rank : Text → ℕ) (m : Member) → IsRanked tree rank
    → (IsIn m.name (names_of tree) → ⊥)
    → ((perch : Perch) → IsIn perch m.perches → IsSeatable tree perch.spot) → IsTree (tree ++ m ∷ [])
joined tree rank m ranked new seatable =
    let top = above_all rank m.perches in
    let fresh = ranked_as rank m.name top in
    let same : (other : Text) → IsIn other (names_of tree) → fresh other ≡ rank other =
    λ other has. ranked-other rank m.name top other (not-named tree m.name other new has) in
    record {
      rank = fresh;
      ranked = record {
        once = once-push (λ (k : Member). k.name) tree m ranked.once new;
        seats = λ k perch there sits. elim (in-either k tree (m ∷ []) there) [
          | inl old ↦
              sits-on tree (tree ++ m ∷ []) rank fresh k.name perch.spot (ranked.seats k perch old sits)
              (λ sched on has lower. (
                has-front tree (m ∷ []) sched has,
                (let one = same sched (has-named has) in
                    let two = same k.name (named-in k tree old) in
                    omega (arith, one, two, lower)),
              ))
          | inr last ↦ elim last [
            | inl is ↦
                let mine : IsIn perch m.perches = subst (λ (n : Member). IsIn perch n.perches) (sym is) sits in
                subst (λ (n : Text). SitsWell (tree ++ m ∷ []) fresh n perch.spot) (ap (λ (n : Member). n.name) is)
                (new-sits tree (tree ++ m ∷ []) rank fresh m.name perch.spot (seatable perch mine)
                (λ sched has e. (
                  has-front tree (m ∷ []) sched has,
                  (let one = same sched (has-named has) in
                      let two = ranked-itself rank m.name top in
                      let lower = over rank perch m.perches mine in
                      omega (arith, one, two, lower, e)),
                )))
            | inr gone ↦ absurd gone
          ]
        ];
      };
    }

-- ---- one less, on whom nobody sits

still-on : (name : Text) (sched : Text) (spot : Spot) → is_on (bytes_eq name) spot ≡ false
    → is_on (λ other. bytes_eq other sched) spot ≡ true → bytes_eq sched name ≡ false
still-on name sched Cpu off on = absurd (let wrong : false ≡ true = on in cc)
still-on name sched (Under other terms) off on =
    ap (λ (n : Text). bytes_eq n name) (sym (bytes_same other sched on)) ∙ bytes_back other name ∙ off

pub removed : (tree : List Member) (rank : Text → ℕ) (name : Text) → IsRanked tree rank
    → ((m : Member) (perch : Perch) → IsIn m tree → bytes_eq m.name name ≡ false → IsIn perch m.perches
    → is_on (bytes_eq name) perch.spot ≡ false)
    → IsRanked (without name tree) rank
removed tree rank name ranked empty = record {
  once = once-left (λ (m : Member). m.name) (λ (m : Member). not (has_name name m)) tree ranked.once;
  seats = λ m perch there sits. (
      let o = of-without name m tree there in
      sits-on tree (without name tree) rank rank m.name perch.spot (ranked.seats m perch o.there sits)
      (λ sched on has lower. (
        has-without tree name sched (still-on name sched perch.spot (empty m perch o.there o.other sits) on) has,
        lower,
      )));
}
