-- Each command that a tree of names allows leaves a stay for each name of the tree, and a thread for each one admitted.
use Rattle.std.proofs.Common.{◌≡◌, ℕ, List, [], ◌∷◌, ◌++◌, Bool, true, false, not, inl, inr}
use Rattle.std.proofs.Common.{refl, sym, ap, subst, ◌∙◌, ◌||◌, ◌⊎◌, map, filter, fold, cond}
use Rattle.std.specs.Prelude.{Option, Some, None, flat_map}
use Rattle.std.specs.List.{list_any}
use Rattle.std.specs.Str.{bytes_eq}
use Rattle.std.proofs.lemmas.Bool.{cases_Bool, not-true}
use Rattle.std.proofs.lemmas.List.{append-nil, map-append}
use Rattle.hls_text.specs.Lines.{Text}
use Rattle.hls_scenario.specs.declared.scenario.Perch.{Perch}
use Rattle.hls_scenario.specs.declared.scenario.Command.{Command}
use Rattle.hls_scenario.specs.declared.scenario.Command.TheVariants as said
use Rattle.hls_report_text.specs.WellFormed.{with_name}
use Rattle.hls_legal.specs.Commands.{ends}
use Rattle.hls_legal.specs.Stays.{admits}
use Rattle.hls_audit_clauses.specs.declared.member.Sort.TheVariants.{Scheduler, Thread}
use Rattle.hls_audit_clauses.specs.declared.member.Member.{Member}
use Rattle.hls_audit_clauses.specs.Names.{member_of, without, is_scheduler, is_thread, after, with_moved}
use Rattle.hls_audit_clauses.specs.Misplaced.{is_misplaced}
use Rattle.hls_audit_stays.proofs.Names.{bytes_same, bytes_self, bytes_apart, bytes_back}
use Rattle.hls_audit_stays.proofs.Lists.{filter_all}
use Rattle.hls_view_tale.specs.declared.standing.Standing.{Standing}
use Rattle.hls_view_tale.specs.Standings.{is_among, firsts, met_below, moved_with, begun, reopened, those_of, those_but}
use Rattle.hls_view_tale.specs.Standings.{with_reopened, standing_after}
use Rattle.hls_view_place_laws.proofs.Among.{IsIn, AreOnce, in-front, in-back, in-either, in-map, of-map}
use Rattle.hls_view_place_laws.proofs.Among.{in-filter, of-filter, in-flat, of-flat, such, any-in, once-append}
use Rattle.hls_view_place_laws.proofs.Among.{once-filter, once-flat, once-left, once-push, once-same}
use Rattle.hls_view_place_laws.proofs.Among.{map-flat}
use Rattle.hls_view_place_laws.proofs.Seats.{names_of, Has, runs, IsTree, named-in, has-named, found}
use Rattle.hls_view_place_laws.proofs.Seats.{scheduler-has, has-thread, nobody, not-both, in-without, of-without}
use Rattle.hls_view_place_laws.proofs.Seats.{has-without, has-front, has-last}
use Rattle.hls_view_place_laws.proofs.Moving.{seated, with_seated}
use Rattle.hls_view_place_laws.proofs.Stepping.{placed}

abbrev pub stays_of : List Standing → List Text
stays_of all = map (λ (s : Standing). s.name) all

pub record IsListed (tree : List Member) (threads : List Text) (all : List Standing) : Type 0 where
  pub threads_once : AreOnce threads
  pub running : (name : Text) → IsIn name threads → Has runs tree name
  pub once : AreOnce (stays_of all)
  pub there : (name : Text) → IsIn name (stays_of all) → IsIn name (names_of tree)
  pub listed : (name : Text) → IsIn name (names_of tree) → IsIn name (stays_of all)

-- ---- lists with one more

pushed-front : {X Y : Type 0} (f : X → Y) (y : Y) (xs : List X) (x : X) → IsIn y (map f xs)
    → IsIn y (map f (xs ++ x ∷ []))
pushed-front f y xs x has =
    subst (λ l. IsIn y l) (sym (map-append f xs (x ∷ []))) (in-front y (map f xs) (f x ∷ []) has)

pushed-last : {X Y : Type 0} (f : X → Y) (y : Y) (xs : List X) (x : X) → f x ≡ y → IsIn y (map f (xs ++ x ∷ []))
pushed-last f y xs x e =
    subst (λ l. IsIn y l) (sym (map-append f xs (x ∷ []))) (in-back y (map f xs) (f x ∷ []) (inl e))

pushed-either : {X Y : Type 0} (f : X → Y) (y : Y) (xs : List X) (x : X) → IsIn y (map f (xs ++ x ∷ []))
    → IsIn y (map f xs) ⊎ (f x ≡ y)
pushed-either f y xs x has =
    elim (in-either y (map f xs) (f x ∷ []) (subst (λ l. IsIn y l) (map-append f xs (x ∷ [])) has)) [
      | inl front ↦ inl front
      | inr back ↦ elim back [ inl is ↦ inr is | inr gone ↦ absurd gone ]
    ]

abbrev name_of : Member → Text
name_of m = m.name

abbrev stay_name : Standing → Text
stay_name s = s.name

-- ---- who comes

came : (tree : List Member) (threads more : List Text) (place : ℕ) (m : Member) (all : List Standing)
    → IsListed tree threads all → (IsIn m.name (names_of tree) → ⊥) → AreOnce more
    → ((name : Text) → IsIn name more → IsIn name threads ⊎ ((name ≡ m.name) × (runs m ≡ true)))
    → IsListed (tree ++ m ∷ []) more (all ++ begun m.name place ∷ [])
came tree threads more place m all l new once each = record {
  threads_once = once;
  running = λ name has. elim (each name has) [
    | inl old ↦ has-front tree (m ∷ []) name (l.running name old)
    | inr mine ↦
        subst (λ (n : Text). Has runs (tree ++ m ∷ []) n) (sym mine.0) (has-last {is = runs} tree m mine.1)
  ];
  once = once-push stay_name all (begun m.name place) l.once (λ has. new (l.there m.name has));
  there = λ name has. elim (pushed-either stay_name name all (begun m.name place) has) [
    | inl old ↦ pushed-front name_of name tree m (l.there name old)
    | inr is ↦ pushed-last name_of name tree m is
  ];
  listed = λ name has. elim (pushed-either name_of name tree m has) [
    | inl old ↦ pushed-front stay_name name all (begun m.name place) (l.listed name old)
    | inr is ↦ pushed-last stay_name name all (begun m.name place) is
  ];
}

-- ---- who goes

pub record IsBut (ns : List Text) (name : Text) (all : List Standing) : Type 0 where
  pub there : IsIn name (stays_of all)
  pub other : is_among ns name ≡ false

of-but : (ns : List Text) (name : Text) (all : List Standing) → IsIn name (stays_of (those_but ns all))
    → IsBut ns name all
of-but ns name all has =
    let o = of-map stay_name name (those_but ns all) has in
    let l = of-filter (λ (s : Standing). not (is_among ns s.name)) o.one all o.has in
    record {
      there = subst (λ (n : Text). IsIn n (stays_of all)) o.is (in-map stay_name o.one all l.has);
      other = ap (is_among ns) (sym o.is) ∙ not-true (is_among ns o.one.name) l.passes;
    }

in-but : (ns : List Text) (name : Text) (all : List Standing) → IsIn name (stays_of all)
    → is_among ns name ≡ false → IsIn name (stays_of (those_but ns all))
in-but ns name all has other =
    let o = of-map stay_name name all has in
    subst (λ (n : Text). IsIn n (stays_of (those_but ns all))) o.is
    (in-map stay_name o.one (those_but ns all)
    (in-filter (λ (s : Standing). not (is_among ns s.name)) o.one all o.has
    (ap (λ (n : Text). not (is_among ns n)) o.is ∙ ap not other)))

or-nothing : (b : Bool) → (b || false) ≡ b
or-nothing true = refl
or-nothing false = refl

went : (tree : List Member) (threads more : List Text) (name : Text) (all : List Standing)
    → IsListed tree threads all → AreOnce more
    → ((other : Text) → IsIn other more → IsIn other threads × (bytes_eq other name ≡ false))
    → IsListed (without name tree) more (those_but (name ∷ []) all)
went tree threads more name all l once each = record {
  threads_once = once;
  running = λ other has. (
      let e = each other has in has-without {is = runs} tree name other e.1 (l.running other e.0));
  once = once-left stay_name (λ (s : Standing). not (is_among (name ∷ []) s.name)) all l.once;
  there = λ other has. (
      let b = of-but (name ∷ []) other all has in
      let o = of-map name_of other tree (l.there other b.there) in
      subst (λ (n : Text). IsIn n (names_of (without name tree))) o.is
      (named-in o.one (without name tree)
      (in-without name o.one tree o.has
      (ap (λ (n : Text). bytes_eq n name) o.is ∙ sym (or-nothing (bytes_eq other name)) ∙ b.other))));
  listed = λ other has. (
      let o = of-map name_of other (without name tree) has in
      let w = of-without name o.one tree o.has in
      in-but (name ∷ []) other all
      (l.listed other (subst (λ (n : Text). IsIn n (names_of tree)) o.is (named-in o.one tree w.there)))
      (or-nothing (bytes_eq other name) ∙ ap (λ (n : Text). bytes_eq n name) (sym o.is) ∙ w.other));
}

-- ---- whose stays are opened anew

abbrev of_name : (place : ℕ) → List Standing → (name : Text) → List Standing
of_name place all name = map (reopened place) (those_of name all)

of-renamed : (place : ℕ) (all : List Standing) (name other : Text)
    → IsIn other (stays_of (of_name place all name)) → (other ≡ name) × IsIn other (stays_of all)
of-renamed place all name other has =
    let o = of-map stay_name other (of_name place all name) has in
    let r = of-map (reopened place) o.one (those_of name all) o.has in
    let l = of-filter (λ (s : Standing). bytes_eq s.name name) r.one all r.has in
    let is : r.one.name ≡ other = ap stay_name r.is ∙ o.is in (
      sym is ∙ bytes_same r.one.name name l.passes,
      subst (λ (n : Text). IsIn n (stays_of all)) is (in-map stay_name r.one all l.has),
    )

in-renamed : (place : ℕ) (all : List Standing) (name : Text) → IsIn name (stays_of all)
    → IsIn name (stays_of (of_name place all name))
in-renamed place all name has =
    let o = of-map stay_name name all has in
    subst (λ (n : Text). IsIn n (stays_of (of_name place all name))) o.is
    (in-map stay_name (reopened place o.one) (of_name place all name)
    (in-map (reopened place) o.one (those_of name all)
    (in-filter (λ (s : Standing). bytes_eq s.name name) o.one all o.has
    (ap (λ (n : Text). bytes_eq n name) o.is ∙ bytes_self name))))

stays-renamed : (place : ℕ) (all : List Standing) → stays_of (map (reopened place) all) ≡ stays_of all
stays-renamed place [] = refl
stays-renamed place (s ∷ all) = ap (λ (l : List Text). s.name ∷ l) (stays-renamed place all)

renamed-once : (place : ℕ) (all : List Standing) (name : Text) → AreOnce (stays_of all)
    → AreOnce (stays_of (of_name place all name))
renamed-once place all name once =
    subst AreOnce (sym (stays-renamed place (those_of name all)))
    (once-left stay_name (λ (s : Standing). bytes_eq s.name name) all once)

among-in : (ns : List Text) (name : Text) → is_among ns name ≡ true → IsIn name ns
among-in ns name e =
    let s = such (bytes_eq name) ns e in
    subst (λ (n : Text). IsIn n ns) (sym (bytes_same name s.one s.passes)) s.has

in-among : (ns : List Text) (name : Text) → IsIn name ns → is_among ns name ≡ true
in-among ns name has = any-in (bytes_eq name) name ns has (bytes_self name)

module _ (place : ℕ) (ns : List Text) (all : List Standing) where
  abbrev anew : List Standing
  anew = flat_map (of_name place all) ns

  anew-is : stays_of anew ≡ flat_map (λ name. stays_of (of_name place all name)) ns
  anew-is = map-flat stay_name (of_name place all) ns

  of-anew : (name : Text) → IsIn name (stays_of anew) → IsIn name ns × IsIn name (stays_of all)
  of-anew name has =
      let o = of-flat (λ n. stays_of (of_name place all n)) name ns (subst (λ l. IsIn name l) anew-is has) in
      let r = of-renamed place all o.one name o.there in
      (subst (λ (n : Text). IsIn n ns) (sym r.0) o.has, r.1)

  in-anew : (name : Text) → IsIn name ns → IsIn name (stays_of all) → IsIn name (stays_of anew)
  in-anew name among has =
      subst (λ l. IsIn name l) (sym anew-is)
      (in-flat (λ n. stays_of (of_name place all n)) name name ns among (in-renamed place all name has))

  anew-once : AreOnce ns → AreOnce (stays_of all) → AreOnce (stays_of anew)
  anew-once once stays =
      subst AreOnce (sym anew-is)
      (once-flat (λ n. stays_of (of_name place all n)) ns once (λ n has. renamed-once place all n stays)
      (λ n k other hn hk at_n at_k.
      sym (of-renamed place all n other at_n).0 ∙ (of-renamed place all k other at_k).0))

  reopened-stays : stays_of (with_reopened place ns all) ≡ stays_of (those_but ns all) ++ stays_of anew
  reopened-stays = map-append stay_name (those_but ns all) anew

  relisted : (tree : List Member) (threads : List Text) → AreOnce ns → IsListed tree threads all
      → IsListed tree threads (with_reopened place ns all)
  relisted tree threads once l = record {
    threads_once = l.threads_once;
    running = l.running;
    once = subst AreOnce (sym reopened-stays)
        (once-append (stays_of (those_but ns all)) (stays_of anew)
        (once-left stay_name (λ (s : Standing). not (is_among ns s.name)) all l.once)
        (anew-once once l.once)
        (λ name front back. (let f = of-but ns name all front in
        let wrong : true ≡ false = sym (in-among ns name (of-anew name back).0) ∙ f.other in
        cc)));
    there = λ name has. elim (in-either name (stays_of (those_but ns all)) (stays_of anew)
        (subst (λ k. IsIn name k) reopened-stays has)) [
          | inl front ↦ l.there name (of-but ns name all front).there
          | inr back ↦ l.there name (of-anew name back).1
        ];
    listed = λ name has. (
        let old = l.listed name has in
        subst (λ k. IsIn name k) (sym reopened-stays)
        (elim (cases_Bool (is_among ns name)) [
          | inl among ↦
              in-back name (stays_of (those_but ns all)) (stays_of anew) (in-anew name (among-in ns name among) old)
          | inr other ↦
              in-front name (stays_of (those_but ns all)) (stays_of anew) (in-but ns name all old other)
        ]));
  }

-- ---- which stays a move opens

with-once : (known : List Text) (name : Text) → AreOnce known → AreOnce (with_name known name)
with-once known name once = by (list_any (bytes_eq name) known) refl
  where
    by : (b : Bool) → list_any (bytes_eq name) known ≡ b → AreOnce (cond b known (known ++ name ∷ []))
    by true e = once
    by false e =
        once-append known (name ∷ []) once (λ has. has, tt)
        (λ n front back. elim back [
          | inl is ↦
              (let has : IsIn name known = subst (λ (k : Text). IsIn k known) (sym is) front in
              let wrong : true ≡ false = sym (in-among known name has) ∙ e in
              cc)
          | inr gone ↦ gone
        ])

firsts-once : (known names : List Text) → AreOnce known → AreOnce (fold with_name known names)
firsts-once known [] once = once
firsts-once known (name ∷ names) once = firsts-once (with_name known name) names (with-once known name once)

moved-once : (tree : List Member) (threads : List Text) (name : Text) → AreOnce (names_of tree) → AreOnce threads
    → ((other : Text) → IsIn other threads → Has runs tree other) → AreOnce (moved_with tree threads name)
moved-once tree threads name once threads_once running =
    let met = met_below tree name in
    once-append (filter (is_scheduler tree) (firsts met)) (filter (is_among met) threads)
    (once-filter (is_scheduler tree) (firsts met) (firsts-once [] met tt))
    (once-filter (is_among met) threads threads_once)
    (λ other front back. not-both tree other once
    (scheduler-has tree other (of-filter (is_scheduler tree) other (firsts met) front).passes)
    (running other (of-filter (is_among met) other threads back).has))

-- ---- who moves

module _ (tree : List Member) (m : Member) (perch : Perch) (there : IsIn m tree) where
  seated-named : (name : Text) → IsIn name (names_of tree) → IsIn name (names_of (with_seated tree m perch))
  seated-named name has = elim (cases_Bool (bytes_eq name m.name)) [
    | inl same ↦
        pushed-last name_of name (without m.name tree) (seated m perch) (sym (bytes_same name m.name same))
    | inr other ↦
        (let o = of-map name_of name tree has in
        pushed-front name_of name (without m.name tree) (seated m perch)
        (subst (λ (n : Text). IsIn n (names_of (without m.name tree))) o.is
        (named-in o.one (without m.name tree)
        (in-without m.name o.one tree o.has (ap (λ (n : Text). bytes_eq n m.name) o.is ∙ other)))))
  ]

  named-seated : (name : Text) → IsIn name (names_of (with_seated tree m perch)) → IsIn name (names_of tree)
  named-seated name has = elim (pushed-either name_of name (without m.name tree) (seated m perch) has) [
    | inl old ↦
        (let o = of-map name_of name (without m.name tree) old in
        subst (λ (n : Text). IsIn n (names_of tree)) o.is
        (named-in o.one tree (of-without m.name o.one tree o.has).there))
    | inr is ↦ subst (λ (n : Text). IsIn n (names_of tree)) is (named-in m tree there)
  ]

  seated-runs : AreOnce (names_of tree) → (name : Text) → Has runs tree name
      → Has runs (with_seated tree m perch) name
  seated-runs once name h = elim (cases_Bool (bytes_eq name m.name)) [
    | inl same ↦
        (let is : name ≡ m.name = bytes_same name m.name same in
        let one : h.member ≡ m = once-same name_of tree h.member m once h.there there (h.named ∙ is) in
        subst (λ (n : Text). Has runs (with_seated tree m perch) n) (sym is)
        (has-last {is = runs} (without m.name tree) (seated m perch) (ap runs (sym one) ∙ h.such)))
    | inr other ↦
        has-front (without m.name tree) (seated m perch ∷ []) name
        (has-without {is = runs} tree m.name name other h)
  ]

moved-listed : (tree : List Member) (threads : List Text) (name : Text) (perch : Perch) (all : List Standing)
    (o : Option Member) → member_of tree name ≡ o → AreOnce (names_of tree) → IsListed tree threads all
    → IsListed (with_moved tree perch o) threads all
moved-listed tree threads name perch all None e once l = l
moved-listed tree threads name perch all (Some m) e once l =
    let f = found tree name m e in
    record {
      threads_once = l.threads_once;
      running = λ other has. seated-runs tree m perch f.there once other (l.running other has);
      once = l.once;
      there = λ other has. seated-named tree m perch f.there other (l.there other has);
      listed = λ other has. l.listed other (named-seated tree m perch f.there other has);
    }

-- ---- each command

abbrev pub threads_then : List Text → Command → List Text
threads_then names command = filter (λ name. not (ends name command)) names ++ admits command []

same-threads : (names : List Text) → filter (λ (name : Text). true) names ++ [] ≡ names
same-threads names =
    append-nil (filter (λ (name : Text). true) names) ∙ filter_all (λ (name : Text). true) names (λ name. refl)

same-listed : (tree : List Member) (threads : List Text) (all : List Standing) → IsListed tree threads all
    → IsListed tree (filter (λ (name : Text). true) threads ++ []) all
same-listed tree threads all l =
    subst (λ (names : List Text). IsListed tree names all) (sym (same-threads threads)) l

pub listed-after : (tree : List Member) (threads : List Text) (place : ℕ) (command : Command) (all : List Standing)
    → IsTree tree → is_misplaced tree command ≡ false → IsListed tree threads all
    → IsListed (after tree command) (threads_then threads command) (standing_after tree threads place command all)
listed-after tree threads place (said.Load name config perches) all t e l =
    let new = nobody tree name t.ranked.once (placed tree (said.Load name config perches) e).taken in
    same-listed (after tree (said.Load name config perches)) threads (all ++ begun name place ∷ [])
    (came tree threads threads place (record { name = name; sort = Scheduler config; perches = perches }) all l new
    l.threads_once (λ other has. inl has))
listed-after tree threads place (said.Thread name perch) all t e l =
    let new = nobody tree name t.ranked.once (placed tree (said.Thread name perch) e).taken in
    let names = filter (λ (other : Text). true) threads in
    let old : (other : Text) → IsIn other names → IsIn other threads =
    λ other has. (of-filter (λ (n : Text). true) other threads has).has in
    came tree threads (names ++ name ∷ []) place (record { name = name; sort = Thread; perches = perch ∷ [] }) all l new
    (once-append names (name ∷ []) (once-filter (λ (n : Text). true) threads l.threads_once) (λ has. has, tt)
    (λ other front back. elim back [
      | inl is ↦
          new (subst (λ (n : Text). IsIn n (names_of tree)) (sym is) (has-named (l.running other (old other front))))
      | inr gone ↦ gone
    ]))
    (λ other has. elim (in-either other names (name ∷ []) has) [
      | inl front ↦ inl (old other front)
      | inr back ↦ elim back [ inl is ↦ inr (sym is, refl) | inr gone ↦ absurd gone ]
    ])
listed-after tree threads place (said.End name) all t e l =
    let left = λ (other : Text). not (bytes_eq name other) in
    subst (λ (names : List Text). IsListed (without name tree) names (those_but (name ∷ []) all))
    (sym (append-nil (filter left threads)))
    (went tree threads (filter left threads) name all l (once-filter left threads l.threads_once)
    (λ other has. (let k = of-filter left other threads has in
    (k.has, bytes_back other name ∙ not-true (bytes_eq name other) k.passes))))
listed-after tree threads place (said.Unload name) all t e l =
    let p = placed tree (said.Unload name) e in
    same-listed (without name tree) threads (those_but (name ∷ []) all)
    (went tree threads threads name all l l.threads_once
    (λ other has. (
      has,
      bytes_apart other name
          (λ same. (let on : is_thread tree name ≡ true =
          ap (is_thread tree) (sym same) ∙ has-thread tree other t.ranked.once (l.running other has) in
          let wrong : true ≡ false = sym on ∙ p.sort in
          cc)),
    )))
listed-after tree threads place (said.Move name perch) all t e l =
    let ns = moved_with tree threads name in
    same-listed (with_moved tree perch (member_of tree name)) threads (with_reopened place ns all)
    (moved-listed tree threads name perch (with_reopened place ns all) (member_of tree name) refl t.ranked.once
    (relisted place ns all tree threads (moved-once tree threads name t.ranked.once l.threads_once l.running) l))
listed-after tree threads place (said.Wake name every burst) all t e l = same-listed tree threads all l
listed-after tree threads place (said.Block name) all t e l = same-listed tree threads all l
