-- A member that takes a seat anew, which is on no scheduler below it.
use Rattle.std.proofs.Common.{◌≡◌, ℕ, suc, ◌+◌, ◌<◌, List, [], ◌∷◌, ◌++◌, Bool, true, false, not, inl, inr}
use Rattle.std.proofs.Common.{refl, sym, ap, subst, ◌∙◌, cond, arith}
use Rattle.std.specs.Prelude.{Option}
use Rattle.std.specs.Str.{bytes_eq}
use Rattle.std.proofs.lemmas.Bool.{cases_Bool, or_left, or_right}
use Rattle.hls_text.specs.Lines.{Text}
use Rattle.hls_scenario.specs.declared.scenario.Spot.{Spot}
use Rattle.hls_scenario.specs.declared.scenario.Spot.TheVariants.{Cpu, Under}
use Rattle.hls_scenario.specs.declared.scenario.Perch.{Perch}
use Rattle.hls_legal.specs.Under.{is_on}
use Rattle.hls_audit_clauses.specs.declared.member.Member.{Member}
use Rattle.hls_audit_clauses.specs.Names.{has_name, member_of, without, perches_of, sits, is_under}
use Rattle.hls_audit.proofs.UnderLaws.{under_step}
use Rattle.hls_audit_stays.proofs.Names.{bytes_same, bytes_self, bytes_apart}
use Rattle.hls_view_place_laws.proofs.Among.{IsIn, AreOnce, in-either, of-map, any-in, once-left, once-push}
use Rattle.hls_view_place_laws.proofs.Seats.{names_of, Has, schedules, runs, IsSeatable, SitsWell, IsRanked, IsTree}
use Rattle.hls_view_place_laws.proofs.Seats.{member-found, of-without, has-without, has-front}
use Rattle.hls_view_place_laws.proofs.Seats.{has-last, not-both}
use Rattle.hls_view_place_laws.proofs.Growing.{sits-on, joined, removed}

-- the same one on another seat
abbrev pub seated : Member → Perch → Member
seated m perch = record m { perches = perch ∷ [] }

abbrev pub with_seated : List Member → Member → Perch → List Member
with_seated tree m perch = without m.name tree ++ seated m perch ∷ []

-- ---- what is under a name

under-self : (tree : List Member) (name : Text) → is_under tree name name ≡ true
under-self tree name =
    under_step tree name name
    ∙ or_left (bytes_eq name name) (sits (is_under tree name) (perches_of (member_of tree name))) (bytes_self name)

-- whoever sits on what is under it is under it
under-up : (tree : List Member) (name : Text) (m : Member) (perch : Perch) → AreOnce (names_of tree) → IsIn m tree
    → IsIn perch m.perches → is_on (is_under tree name) perch.spot ≡ true → is_under tree name m.name ≡ true
under-up tree name m perch once there sits_there on =
    under_step tree name m.name
    ∙ or_right (bytes_eq m.name name) (sits (is_under tree name) (perches_of (member_of tree m.name)))
    (ap (λ (o : Option Member). sits (is_under tree name) (perches_of o)) (member-found tree m once there)
    ∙ any-in (λ (p : Perch). is_on (is_under tree name) p.spot) perch m.perches sits_there on)

on-test : (test : Text → Bool) (sched : Text) (spot : Spot) → is_on (λ other. bytes_eq other sched) spot ≡ true
    → test sched ≡ true → is_on test spot ≡ true
on-test test sched Cpu on e = absurd (let wrong : false ≡ true = on in cc)
on-test test sched (Under other terms) on e = ap test (bytes_same other sched on) ∙ e

-- ---- ranks once all that is under a name comes later

later : (rank : Text → ℕ) → (under : Text → Bool) → (more : ℕ) → Text → ℕ
later rank under more name = cond (under name) (more + rank name) (rank name)

later-low : (low high : Bool) (more x y : ℕ) → (low ≡ true → high ≡ true) → x < y
    → cond low (more + x) x < cond high (more + y) y
later-low true true more x y up lt = omega (arith, lt)
later-low true false more x y up lt = absurd (let wrong : false ≡ true = up refl in cc)
later-low false true more x y up lt = omega (arith, lt)
later-low false false more x y up lt = lt

later-both : (rank : Text → ℕ) (under : Text → Bool) (more : ℕ) (low high : Text)
    → (under low ≡ true → under high ≡ true) → rank low < rank high
    → later rank under more low < later rank under more high
unfolding later
later-both rank under more low high up lt = later-low (under low) (under high) more (rank low) (rank high) up lt

later-new : (rank : Text → ℕ) (under : Text → Bool) (low high : Text) → under low ≡ false → under high ≡ true
    → later rank under (suc (rank low)) low < later rank under (suc (rank low)) high
unfolding later
later-new rank under low high off on =
    let one = ap (λ b. cond b (suc (rank low) + rank low) (rank low)) off in
    let two = ap (λ b. cond b (suc (rank low) + rank high) (rank high)) on in
    omega (arith, one, two)

-- ---- a scheduler that moves

-- who was there is there
still-there : (tree : List Member) (m : Member) (perch : Perch) (sched : Text) → AreOnce (names_of tree)
    → IsIn m tree → schedules m ≡ true → Has schedules tree sched → Has schedules (with_seated tree m perch) sched
still-there tree m perch sched once there such has = elim (cases_Bool (bytes_eq sched m.name)) [
  | inl same ↦
      subst (λ (n : Text). Has schedules (with_seated tree m perch) n) (sym (bytes_same sched m.name same))
      (has-last (without m.name tree) (seated m perch) such)
  | inr other ↦
      has-front (without m.name tree) (seated m perch ∷ []) sched (has-without tree m.name sched other has)
]

seated-once : (tree : List Member) (m : Member) (perch : Perch) → AreOnce (names_of tree)
    → AreOnce (names_of (with_seated tree m perch))
seated-once tree m perch once =
    once-push (λ (k : Member). k.name) (without m.name tree) (seated m perch)
    (once-left (λ (k : Member). k.name) (λ (k : Member). not (has_name m.name k)) tree once)
    (λ has. (let o = of-map (λ (k : Member). k.name) m.name (without m.name tree) has in
    let f = of-without m.name o.one tree o.has in
    let wrong : false ≡ true = sym f.other ∙ ap (λ (n : Text). bytes_eq n m.name) o.is ∙ bytes_self m.name in
    cc))

-- the rank of the scheduler on which it sits then, if it is one
pub spot-more : (rank : Text → ℕ) → Spot → ℕ
spot-more rank Cpu = 0
spot-more rank (Under sched terms) = suc (rank sched)

itself-sits : (tree new : List Member) (rank : Text → ℕ) (under : Text → Bool) (name : Text) (spot : Spot)
    → under name ≡ true → is_on under spot ≡ false → IsSeatable tree spot
    → ((sched : Text) → Has schedules tree sched → Has schedules new sched)
    → SitsWell new (later rank under (spot-more rank spot)) name spot
unfolding spot-more
itself-sits tree new rank under name Cpu on off seatable still = tt
itself-sits tree new rank under name (Under sched terms) on off seatable still =
    (still sched seatable, later-new rank under sched name off on)

pub scheduler-moved : (tree : List Member) (rank : Text → ℕ) (m : Member) (perch : Perch) → IsRanked tree rank
    → IsIn m tree → schedules m ≡ true → IsSeatable tree perch.spot
    → is_on (is_under tree m.name) perch.spot ≡ false → IsTree (with_seated tree m perch)
scheduler-moved tree rank m perch ranked there such seatable off =
    let under = is_under tree m.name in
    let fresh = later rank under (spot-more rank perch.spot) in
    let new = with_seated tree m perch in
    let still = λ (sched : Text) (has : Has schedules tree sched).
    still-there tree m perch sched ranked.once there such has in
    record {
      rank = fresh;
      ranked = record {
        once = seated-once tree m perch ranked.once;
        seats = λ k p in_new sits. elim (in-either k (without m.name tree) (seated m perch ∷ []) in_new) [
          | inl old ↦
              let o = of-without m.name k tree old in
              sits-on tree new rank fresh k.name p.spot (ranked.seats k p o.there sits)
              (λ sched on has lower. (
                still sched has,
                later-both rank under (spot-more rank perch.spot) sched k.name
                    (λ low. under-up tree m.name k p ranked.once o.there sits (on-test under sched p.spot on low))
                    lower,
              ))
          | inr last ↦ elim last [
            | inl is ↦
                let mine : IsIn p (perch ∷ []) = subst (λ (n : Member). IsIn p n.perches) (sym is) sits in
                elim mine [
                  | inl one ↦
                      subst (λ (q : Perch). SitsWell new fresh k.name q.spot) one
                      (subst (λ (n : Text). SitsWell new fresh n perch.spot) (ap (λ (n : Member). n.name) is)
                      (itself-sits tree new rank under m.name perch.spot (under-self tree m.name) off seatable
                      still))
                  | inr gone ↦ absurd gone
                ]
            | inr gone ↦ absurd gone
          ]
        ];
      };
    }

-- ---- a thread that moves: nobody sits on it

no-seat : (tree : List Member) (m k : Member) (perch : Perch) (rank : Text → ℕ) → IsRanked tree rank → IsIn m tree
    → runs m ≡ true → SitsWell tree rank k.name perch.spot → is_on (bytes_eq m.name) perch.spot ≡ false
no-seat tree m k perch rank ranked there such sits = by perch.spot sits
  where
    by : (spot : Spot) → SitsWell tree rank k.name spot → is_on (bytes_eq m.name) spot ≡ false
    by Cpu sits = refl
    by (Under sched terms) sits =
        bytes_apart m.name sched
        (λ e. not-both tree sched ranked.once sits.0
        (record { member = m; there = there; named = e; such = such }))

seatable-without : (tree : List Member) (m : Member) (spot : Spot) → AreOnce (names_of tree) → IsIn m tree
    → runs m ≡ true → IsSeatable tree spot → IsSeatable (without m.name tree) spot
seatable-without tree m Cpu once there such seatable = tt
seatable-without tree m (Under sched terms) once there such seatable =
    has-without tree m.name sched
    (bytes_apart sched m.name
    (λ e. not-both tree sched once seatable
    (record { member = m; there = there; named = sym e; such = such })))
    seatable

pub thread-moved : (tree : List Member) (rank : Text → ℕ) (m : Member) (perch : Perch) → IsRanked tree rank
    → IsIn m tree → runs m ≡ true → IsSeatable tree perch.spot → IsTree (with_seated tree m perch)
thread-moved tree rank m perch ranked there such seatable =
    joined (without m.name tree) rank (seated m perch)
    (removed tree rank m.name ranked
    (λ k p has other sits. no-seat tree m k p rank ranked there such (ranked.seats k p has sits)))
    (λ has. (let o = of-map (λ (k : Member). k.name) m.name (without m.name tree) has in
    let f = of-without m.name o.one tree o.has in
    let wrong : false ≡ true = sym f.other ∙ ap (λ (n : Text). bytes_eq n m.name) o.is ∙ bytes_self m.name in
    cc))
    (λ p sits. elim sits [
      | inl is ↦
          subst (λ (q : Perch). IsSeatable (without m.name tree) q.spot) is
          (seatable-without tree m perch.spot ranked.once there such seatable)
      | inr gone ↦ absurd gone
    ])
