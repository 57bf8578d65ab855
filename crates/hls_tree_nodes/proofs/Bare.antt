-- Seats and books, from nodes without wakes and stays.
use Rattle.std.proofs.Common.{◌≡◌, ℕ, List, [], Option, Some, None, refl, sym, ap, ◌∙◌}
use Rattle.hls_machine.specs.Hierarchy.{Node, Loaded, Admitted, Seat, seats_of, book_of}
use Rattle.hls_tree_nodes.specs.Shown.{What, Scheduler, Thread, Shown, Bare, SchedulerNode, ThreadNode, bare, bare_in}
use Rattle.hls_tree_nodes.specs.Shown.{bare_what, seats_in, book_in, book_bare}

seats_bare : Option Bare → List Seat
seats_bare None = []
seats_bare (Some (SchedulerNode s)) = s.ports
seats_bare (Some (ThreadNode name seats)) = seats

seats_of_bare : (node : Option Node) → seats_of node ≡ seats_bare (bare node)
unfolding seats_bare
seats_of_bare None = refl
seats_of_bare (Some (Loaded s)) = refl
seats_of_bare (Some (Admitted t)) = refl

seats_what : (name : List ℕ) (seats : List Seat) (w : What) → seats ≡ seats_bare (Some (bare_what name seats w))
unfolding seats_bare
seats_what name seats (Scheduler post) = refl
seats_what name seats (Thread r) = refl

seats_in_bare : (o : Option Shown) → seats_in o ≡ seats_bare (bare_in o)
unfolding seats_bare
seats_in_bare None = refl
seats_in_bare (Some s) = seats_what s.name s.seats s.what

pub seats_same : (node : Option Node) (o : Option Shown) → bare node ≡ bare_in o → seats_of node ≡ seats_in o
seats_same node o e = seats_of_bare node ∙ ap seats_bare e ∙ sym (seats_in_bare o)

book_of_bare : (node : Option Node) → book_of node ≡ book_bare (bare node)
book_of_bare None = refl
book_of_bare (Some (Loaded s)) = refl
book_of_bare (Some (Admitted t)) = refl

pub book_same : (node : Option Node) (o : Option Shown) → bare node ≡ bare_in o → book_of node ≡ book_in o
book_same node o e = book_of_bare node ∙ ap book_bare e
