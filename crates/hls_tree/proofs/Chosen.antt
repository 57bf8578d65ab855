-- Whom a scheduler serves while it stands.
use Rattle.std.proofs.Common.{◌≡◌, ◌≢◌, ℕ, ◌<◌, Bool, true, List, Option, Some, None, refl, sym, ap, ◌∙◌, subst}
use Rattle.std.specs.Prelude.{IfSome}
use Rattle.hls_chron.specs.declared.book.TickRow.{TickRow}
use Rattle.hls_chron.specs.Seats.{terms_at}
use Rattle.hls_kinds.specs.Discipline.{Serves}
use Rattle.hls_sched.specs.Seen.{Seen, config_of, leapt, tick_row}
use Rattle.hls_machine.specs.Hierarchy.{Hierarchy, Node, Loaded, Admitted, Scheduler as LoadedScheduler, Seat}
use Rattle.hls_machine.specs.Steps.{Hop, Path, hop_at, hops_of, row_by}
use Rattle.hls_machine.specs.Legal.{IsReached}
use Rattle.hls_machine.proofs.Books.{IsMadeNode, legal_made}
use Rattle.hls_kinds.proofs.Choices.{serves_one}
use Rattle.hls_book.proofs.Books.{admission_made}
use Rattle.hls_tree_nodes.specs.Shown.{Post, What, Scheduler, Shown, SchedulerNode, bare, bare_in, is_sched}
use Rattle.hls_tree_nodes.specs.Shown.{ServesIn, on_post, mask_in, grant_in}
use Rattle.hls_tree_nodes.specs.Shown as shown
use Rattle.hls_tree_nodes.specs.Leapt.{StandsLate, StandsIn, StandsWhat, nodes_by, post_leapt}
use Rattle.hls_tree_nodes.specs.TreeOf.{IsOf, IsPassing}
use Rattle.hls_tree_passes.proofs.Leaps.{granted_by_row}

made_here : (node : Option Node) (s : LoadedScheduler) → bare node ≡ Some (SchedulerNode s) → IsMadeNode node
    → IsMadeNode (Some (Loaded s))
made_here None s e made = absurd cc
made_here (Some (Loaded x)) s e made = let same : x ≡ s = cc in
    subst (λ (y : LoadedScheduler). IsMadeNode (Some (Loaded y))) same made
made_here (Some (Admitted t)) s e made = absurd cc

-- the choice of a row in which a slot was served
choice_is : (mask : ℕ) (grant choice : Option ℕ) (other : ℕ) (hop : Hop)
    → tick_row mask grant choice ≡ row_by other (Some hop) → choice ≡ Some hop.slot
choice_is mask (Some port) (Some slot) other hop e = ap (λ (row : TickRow). row.to) e
choice_is mask (Some port) None other hop e =
    absurd (let no : None ≡ Some hop.slot = ap (λ (row : TickRow). row.to) e in cc)
choice_is mask None choice other hop e =
    absurd (let no : None ≡ Some hop.slot = ap (λ (row : TickRow). row.to) e in cc)

chosen_serves : (u : Seen) (choice : Option ℕ) (n slot : ℕ) → choice ≡ Some slot
    → IfSome choice (Serves (config_of u) (leapt n choice u).book u.mask)
    → Serves (config_of u) (leapt n choice u).book u.mask slot
chosen_serves u None n slot is serves = absurd cc
chosen_serves u (Some other) n slot is serves =
    let same : other ≡ slot = cc in
    subst (λ at. Serves (config_of u) (leapt n (Some other) u).book u.mask at) same serves

-- of a box with a made book that is granted: what serves while it stands is its choice
unit_one : (name : List ℕ) (seats : List Seat) (u : Seen) (choice : Option ℕ) (n j at slot : ℕ)
    → IsMadeNode (Some (Loaded (record { name = name; config = config_of u; book = u.book; ports = seats })))
    → StandsLate n choice u → u.grant ≢ None → j < n → choice ≡ Some at
    → Serves (config_of u) (leapt j choice u).book u.mask slot → choice ≡ Some slot
unfolding terms_at
unit_one name seats u choice n j at slot made stands granted lt is serves =
    let mine = chosen_serves u choice j at is (stands.serves granted j lt) in
    let sits = (admission_made (config_of u) u.book made).seats in
    is ∙ ap (λ k. Some k) (serves_one (config_of u) (leapt j choice u).book u.mask at slot
    (record { within = sits.within; of_kind = sits.of_kind; apart = sits.apart }) mine serves)

node_one : (o : Option Shown) (node : Option Node) (choice : Option ℕ) (n j mask slot : ℕ) (hop : Hop)
    → bare node ≡ bare_in o → IsMadeNode node → StandsIn n choice o → j < n
    → (is_sched o ≡ true → tick_row (mask_in o) (grant_in o) choice ≡ row_by mask (Some hop))
    → ServesIn (on_post (post_leapt j choice) o) slot → choice ≡ Some slot
node_one None node choice n j mask slot hop is made stands lt row serves = absurd serves
node_one (Some x) node choice n j mask slot hop is made stands lt row serves =
    by_what x.what is stands row serves where
      by_what : (w : What) → bare node ≡ bare_in (Some (record x { what = w })) → StandsWhat n choice w
          → (is_sched (Some (record x { what = w })) ≡ true
          → tick_row (mask_in (Some (record x { what = w }))) (grant_in (Some (record x { what = w }))) choice
          ≡ row_by mask (Some hop))
          → ServesIn (on_post (post_leapt j choice) (Some (record x { what = w }))) slot → choice ≡ Some slot
      by_what (Scheduler post) same on tick serves_so =
          unit_one x.name x.seats post.unit choice n j hop.slot slot (made_here node _ same made) on
          (granted_by_row post.unit.mask post.unit.grant choice mask (Some hop) (tick refl)
          (λ none. let no : Some hop ≡ None = none in cc)) lt
          (choice_is post.unit.mask post.unit.grant choice mask hop (tick refl)) serves_so
      by_what (shown.Thread ready) same on tick serves_so = absurd serves_so

hop_there : (o : Option Hop) → o ≢ None → (hop : Hop) × (o ≡ Some hop)
hop_there None some = absurd (some refl)
hop_there (Some hop) some = (hop, refl)

-- while nodes stand, on the path of a legal run, a slot to serve is the choice
pub chosen_one : (s : ℕ → Option Shown) (choices : ℕ → Option ℕ) (tick horizon : ℕ) (root : Option ℕ)
    (route : Option (List ℕ)) (h : Hierarchy) (asking : ℕ → Bool) (slots : ℕ → ℕ) (path : Option Path) (n : ℕ)
    → IsReached h → IsOf s tick horizon root h → IsPassing s choices route h asking slots path
    → ((k : ℕ) → StandsIn n (choices k) (s k)) → (j k slot : ℕ) → j < n → hop_at (hops_of path) k ≢ None
    → ServesIn (nodes_by s choices j k) slot → choices k ≡ Some slot
chosen_one s choices tick horizon root route h asking slots path n r of passing stands j k slot lt on serves =
    let hop = hop_there (hop_at (hops_of path) k) on in
    let made : IsMadeNode (h.nodes k) =
    subst (λ (g : Hierarchy). IsMadeNode (g.nodes k)) (sym r.leads) (legal_made r.past r.legal k) in
    node_one (s k) (h.nodes k) (choices k) n j (slots k) slot hop.0 (of.nodes k) made (stands k) lt
    (λ is. passing.rows k is ∙ ap (row_by (slots k)) hop.1) serves
