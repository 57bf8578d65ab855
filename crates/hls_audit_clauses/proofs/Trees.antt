-- A tree of names stands for a hierarchy: its members are the nodes, in the order in which they took their seats.
use Rattle.std.proofs.Common.{◌≡◌, ◌≢◌, ℕ, inl, inr, ◌+◌, List, [], ◌∷◌, ◌++◌, ◌==◌, Bool, true, false, not, cond}
use Rattle.std.proofs.Common.{filter, refl, sym, ap, ◌∙◌, subst}
use Rattle.std.specs.Prelude.{Option, Some, None, Contains, find, flat_map}
use Rattle.std.specs.Str.{bytes_eq}
use Rattle.std.proofs.lemmas.Bool.{cases_Bool, eq-eqb, ne_eqb}
use Rattle.std.proofs.lemmas.Slice.Eq.{bytes_eq-Decides}
use Rattle.std.proofs.lemmas.List.Elements.{filter-append}
use Rattle.hls_text.specs.Lines.{Text}
use Rattle.hls_machine.specs.Hierarchy.{Hierarchy, Node, Loaded, Admitted, At, Seat, SeatHolder, name_of, seats_of}
use Rattle.hls_machine.specs.Hierarchy.{seat_of}
use Rattle.hls_machine.specs.Steps.{sitters}
use Rattle.hls_machine.proofs.Listings.{First, Later, in_cases, none_in, contains_first, contains_later}
use Rattle.hls_legal.specs.Schedule.{is_name}
use Rattle.hls_legal.specs.Tells.{HasName, ArePerches}
use Rattle.hls_legal.proofs.Rousings.{names_same}
use Rattle.hls_legal.proofs.Told.{Unique, by_name}
use Rattle.hls_legal.proofs.Orders.{kept_perches}
use Rattle.hls_audit_clauses.specs.declared.member.Sort.{Sort}
use Rattle.hls_audit_clauses.specs.declared.member.Sort.TheVariants as sorts
use Rattle.hls_audit_clauses.specs.declared.member.Member.{Member}
use Rattle.hls_audit_clauses.specs.Names.{has_name, member_of, without}

abbrev pub sort_at : Option Node → Option Sort
sort_at None = None
sort_at (Some (Loaded s)) = Some (sorts.Scheduler s.config)
sort_at (Some (Admitted t)) = Some sorts.Thread

pub record IsMember (h : Hierarchy) (k : ℕ) (m : Member) : Type 0 where
  pub named : name_of (h.nodes k) ≡ Some m.name
  pub sort : sort_at (h.nodes k) ≡ Some m.sort
  pub perches : ArePerches h (seats_of (h.nodes k)) m.perches

abbrev pub AreMembers : Hierarchy → List ℕ → List Member → Type 0
AreMembers h [] [] = Unit {0}
AreMembers h (k ∷ ks) (m ∷ tree) = IsMember h k m × AreMembers h ks tree
AreMembers h _ _ = ⊥

-- the seats that a node holds
abbrev pub held_by : (ℕ → Option Node) → (k : ℕ) → List SeatHolder
held_by nodes k = sitters k 0 (seats_of (nodes k))

pub record IsTreeOf (tree : List Member) (h : Hierarchy) : Type 0 where
  pub ks : List ℕ
  pub members : AreMembers h ks tree
  pub seats : h.seats ≡ flat_map (held_by h.nodes) ks
  pub all : (k : ℕ) (name : Text) → HasName h k name → Contains ks k

-- ---- who has a name

pub record IsFoundMember (h : Hierarchy) (tree : List Member) (name : Text) (k : ℕ) : Type 0 where
  pub m : Member
  pub found : member_of tree name ≡ Some m
  pub is : IsMember h k m

other_member : (h : Hierarchy) (d k : ℕ) (mine name : Text) → d ≡ k → HasName h d mine → HasName h k name
    → bytes_eq mine name ≡ false → ⊥
other_member h d k mine name e has named off =
    let both : Some mine ≡ Some name = sym has ∙ ap (λ x. name_of (h.nodes x)) e ∙ named in
    let same : mine ≡ name = cc in
    let wrong : true ≡ false = sym (names_same name mine same) ∙ off in
    cc

member_in : (h : Hierarchy) → Unique h.nodes → (ks : List ℕ) (tree : List Member) → AreMembers h ks tree
    → (k : ℕ) (name : Text) → HasName h k name → Contains ks k → IsFoundMember h tree name k
member_in h unique [] tree are k name has c = absurd (none_in k c)
member_in h unique (d ∷ ks) [] are k name has c = absurd are
member_in h unique (d ∷ ks) (m ∷ tree) are k name has c = elim (cases_Bool (bytes_eq m.name name)) [
  | inl on ↦
      let same : m.name ≡ name = (bytes_eq-Decides m.name name).0 on in
      let it : d ≡ k = unique d k name (are.0.named ∙ ap (λ (n : Text). Some n) same) has in
      record {
        m = m;
        found = ap (λ (b : Bool). cond b (Some m) (find (has_name name) tree)) on;
        is = subst (λ (x : ℕ). IsMember h x m) it are.0;
      }
  | inr off ↦ elim (in_cases d ks k c) [
    | First same ↦ absurd (other_member h d k m.name name same are.0.named has off)
    | Later rest ↦
        let f = member_in h unique ks tree are.1 k name has rest in
        record {
          m = f.m;
          found = ap (λ (b : Bool). cond b (Some m) (find (has_name name) tree)) off ∙ f.found;
          is = f.is;
        }
  ]
]

pub member_found : (h : Hierarchy) (tree : List Member) → Unique h.nodes → IsTreeOf tree h → (k : ℕ) (name : Text)
    → HasName h k name → IsFoundMember h tree name k
member_found h tree unique t k name has = member_in h unique t.ks tree t.members k name has (t.all k name has)

-- the node of a member that is found
pub record IsNodeOf (h : Hierarchy) (name : Text) (m : Member) : Type 0 where
  pub k : ℕ
  pub has : HasName h k name
  pub is : IsMember h k m

node_in : (h : Hierarchy) (ks : List ℕ) (tree : List Member) → AreMembers h ks tree → (name : Text) (m : Member)
    → member_of tree name ≡ Some m → IsNodeOf h name m
node_in h [] [] are name m e = absurd (cc)
node_in h [] (x ∷ tree) are name m e = absurd are
node_in h (d ∷ ks) [] are name m e = absurd are
node_in h (d ∷ ks) (x ∷ tree) are name m e = elim (cases_Bool (bytes_eq x.name name)) [
  | inl on ↦
      let same : x.name ≡ name = (bytes_eq-Decides x.name name).0 on in
      let both : Some x ≡ Some m =
      sym (ap (λ (b : Bool). cond b (Some x) (find (has_name name) tree)) on) ∙ e in
      let it : x ≡ m = cc in
      record {
        k = d;
        has = are.0.named ∙ ap (λ (n : Text). Some n) same;
        is = subst (IsMember h d) it are.0;
      }
  | inr off ↦
      node_in h ks tree are.1 name m (sym (ap (λ (b : Bool). cond b (Some x) (find (has_name name) tree)) off) ∙ e)
]

pub node_found : (h : Hierarchy) (tree : List Member) → IsTreeOf tree h → (name : Text) (m : Member)
    → member_of tree name ≡ Some m → IsNodeOf h name m
node_found h tree t name m e = node_in h t.ks tree t.members name m e

-- a member of the list
pub record IsNamed (h : Hierarchy) (k : ℕ) : Type 0 where
  pub name : Text
  pub has : HasName h k name

pub member_named : (h : Hierarchy) (ks : List ℕ) (tree : List Member) → AreMembers h ks tree → (k : ℕ)
    → Contains ks k → IsNamed h k
member_named h [] tree are k c = absurd (none_in k c)
member_named h (d ∷ ks) [] are k c = absurd are
member_named h (d ∷ ks) (m ∷ tree) are k c = elim (in_cases d ks k c) [
  | First same ↦ record { name = m.name; has = ap (λ x. name_of (h.nodes x)) (sym same) ∙ are.0.named }
  | Later rest ↦ member_named h ks tree are.1 k rest
]

-- ---- members that stay, and one that goes or comes

pub record IsSameNode (new old : Option Node) : Type 0 where
  pub name : name_of new ≡ name_of old
  pub sort : sort_at new ≡ sort_at old
  pub seats : seats_of new ≡ seats_of old

pub member_kept : (h g : Hierarchy) (d : ℕ) (m : Member) → IsSameNode (g.nodes d) (h.nodes d)
    → ((port : ℕ) (seat : Seat) (p slot : ℕ) → seat_of (h.nodes d) port ≡ Some seat → seat.place ≡ At p slot
    → (name : Text) → HasName h p name → HasName g p name)
    → IsMember h d m → IsMember g d m
member_kept h g d m same stay is = record {
  named = same.name ∙ is.named;
  sort = same.sort ∙ is.sort;
  perches = subst (λ (l : List Seat). ArePerches g l m.perches) (sym same.seats)
      (kept_perches h g (seats_of (h.nodes d)) m.perches (λ port seat p slot. stay port seat p slot) is.perches);
}

pub members_on : (h g : Hierarchy) (ks : List ℕ) (tree : List Member)
    → ((d : ℕ) (m : Member) → IsMember h d m → IsMember g d m) → AreMembers h ks tree → AreMembers g ks tree
members_on h g [] [] on are = tt
members_on h g [] (m ∷ tree) on are = absurd are
members_on h g (d ∷ ks) [] on are = absurd are
members_on h g (d ∷ ks) (m ∷ tree) on are = (on d m are.0, members_on h g ks tree on are.1)

pub members_push : (h : Hierarchy) (ks : List ℕ) (tree : List Member) (k : ℕ) (m : Member)
    → AreMembers h ks tree → IsMember h k m → AreMembers h (ks ++ k ∷ []) (tree ++ m ∷ [])
members_push h [] [] k m are is = (is, tt)
members_push h [] (x ∷ tree) k m are is = absurd are
members_push h (d ∷ ks) [] k m are is = absurd are
members_push h (d ∷ ks) (x ∷ tree) k m are is = (are.0, members_push h ks tree k m are.1 is)

members_if : (g : Hierarchy) (d : ℕ) (m : Member) (ks : List ℕ) (tree : List Member) (a b : Bool) → a ≡ b
    → (a ≡ true → IsMember g d m) → AreMembers g ks tree
    → AreMembers g (cond a (d ∷ ks) ks) (cond b (m ∷ tree) tree)
members_if g d m ks tree true true e is rest = (is refl, rest)
members_if g d m ks tree true false e is rest = absurd (cc)
members_if g d m ks tree false true e is rest = absurd (cc)
members_if g d m ks tree false false e is rest = rest

-- any node but k
abbrev pub other_than : (k : ℕ) → ℕ → Bool
other_than k d = not (d == k)

pub is_other : (k d : ℕ) → other_than k d ≡ true → d ≢ k
is_other k d on e = let off : other_than k d ≡ false = ap not (eq-eqb d k e) in
    let wrong : true ≡ false = sym on ∙ off in cc

pub other_is : (k d : ℕ) → d ≢ k → other_than k d ≡ true
other_is k d ne = ap not (ne_eqb d k ne)

pub members_without : (h g : Hierarchy) → Unique h.nodes → (k : ℕ) (name : Text) → HasName h k name
    → ((d : ℕ) (m : Member) → d ≢ k → IsMember h d m → IsMember g d m) → (ks : List ℕ) (tree : List Member)
    → AreMembers h ks tree → AreMembers g (filter (other_than k) ks) (without name tree)
members_without h g unique k name has on [] [] are = tt
members_without h g unique k name has on [] (m ∷ tree) are = absurd are
members_without h g unique k name has on (d ∷ ks) [] are = absurd are
members_without h g unique k name has on (d ∷ ks) (m ∷ tree) are =
    let same : (d == k) ≡ bytes_eq m.name name =
    by_name h.nodes unique k d name has ∙ ap (is_name name) are.0.named in
    members_if g d m (filter (other_than k) ks) (without name tree) (not (d == k)) (not (bytes_eq m.name name))
    (ap not same) (λ it. on d m (is_other k d it) are.0)
    (members_without h g unique k name has on ks tree are.1)

-- ---- seats that stay

abbrev pub not_of : (k : ℕ) → SeatHolder → Bool
not_of k s = not (s.node == k)

filter_sitters : (k d from : ℕ) (seats : List Seat) (b : Bool) → not (d == k) ≡ b
    → filter (not_of k) (sitters d from seats) ≡ cond b (sitters d from seats) []
filter_sitters k d from [] true e = refl
filter_sitters k d from [] false e = refl
filter_sitters k d from (seat ∷ seats) true e =
    let rest = filter (not_of k) (sitters d (from + 1) seats) in
    let first : SeatHolder = record { node = d; port = from } in
    ap (λ (b : Bool). cond b (first ∷ rest) rest) e
    ∙ ap (λ l. first ∷ l) (filter_sitters k d (from + 1) seats true e)
filter_sitters k d from (seat ∷ seats) false e =
    let rest = filter (not_of k) (sitters d (from + 1) seats) in
    let first : SeatHolder = record { node = d; port = from } in
    ap (λ (b : Bool). cond b (first ∷ rest) rest) e ∙ filter_sitters k d (from + 1) seats false e

pub filter_held : (nodes : ℕ → Option Node) (k : ℕ) (ks : List ℕ)
    → filter (not_of k) (flat_map (held_by nodes) ks) ≡ flat_map (held_by nodes) (filter (other_than k) ks)
filter_held nodes k [] = refl
filter_held nodes k (d ∷ ks) =
    let these = flat_map (held_by nodes) ks in
    let those = filter (other_than k) ks in
    let apart = filter-append (not_of k) (held_by nodes d) these in
    elim (cases_Bool (not (d == k))) [
      | inl on ↦
          apart ∙ ap (λ l. l ++ filter (not_of k) these) (filter_sitters k d 0 (seats_of (nodes d)) true on)
          ∙ ap (λ l. held_by nodes d ++ l) (filter_held nodes k ks)
          ∙ sym (ap (λ (b : Bool). flat_map (held_by nodes) (cond b (d ∷ those) those)) on)
      | inr off ↦
          apart ∙ ap (λ l. l ++ filter (not_of k) these) (filter_sitters k d 0 (seats_of (nodes d)) false off)
          ∙ filter_held nodes k ks
          ∙ sym (ap (λ (b : Bool). flat_map (held_by nodes) (cond b (d ∷ those) those)) off)
    ]

pub flat_same : {X : Type 0} (f g : ℕ → List X) (ks : List ℕ) → ((d : ℕ) → Contains ks d → f d ≡ g d)
    → flat_map f ks ≡ flat_map g ks
flat_same f g [] same = refl
flat_same f g (d ∷ ks) same =
    ap (λ l. l ++ flat_map f ks) (same d (contains_first d ks))
    ∙ ap (λ l. g d ++ l) (flat_same f g ks (λ c in_it. same c (contains_later d ks c in_it)))

pub filter_absent : (k : ℕ) (ks : List ℕ) → ((d : ℕ) → Contains ks d → d ≢ k) → filter (other_than k) ks ≡ ks
filter_absent k [] ne = refl
filter_absent k (d ∷ ks) ne =
    ap (λ (b : Bool). cond b (d ∷ filter (other_than k) ks) (filter (other_than k) ks))
    (other_is k d (ne d (contains_first d ks)))
    ∙ ap (λ l. d ∷ l) (filter_absent k ks (λ c in_it. ne c (contains_later d ks c in_it)))
