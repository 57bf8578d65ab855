-- What calls leave of who is behind.
use Rattle.std.proofs.Common.{◌≡◌, ℕ, List, refl, ◌∙◌}
use Rattle.std.specs.declared.dyn_box.DynBox.{DynBox}
use Rattle.std.specs.declared.alloc.Global.{Global}
use Rattle.hls_sched.specs.Seen.{Seen}
use Rattle.hls_tree_nodes.specs.Shown.{PostedIn, asks_in}
use Rattle.hls_tree_nodes.specs.Views.{stored_at, shown_at}
use Rattle.hls_tree_nodes.specs.Late.{IsLate, IsQuiet, StaysLate}
use Rattle.hls_tree_nodes.specs.declared.nodes.Nodes.{Nodes}
use Rattle.hls_tree_nodes.proofs.Behind.{asks_late, posted_in}

pub stays_refl : {V : Type 0} {P : V → Type 0} (show : DynBox V Global P → Seen) (nodes : Nodes V P)
    → IsLate show nodes → StaysLate show nodes nodes
stays_refl show nodes late = record {
  late = late;
  behind = refl;
  tick = refl;
  bits = λ at lt is. is;
  there = λ at c lt bit is. is;
  asks = λ at c lt bit is. refl;
}

pub stays_then : {V : Type 0} {P : V → Type 0} (show : DynBox V Global P → Seen) (old mid new : Nodes V P)
    → StaysLate show old mid → StaysLate show mid new → StaysLate show old new
stays_then show old mid new one two = record {
  late = two.late;
  behind = two.behind ∙ one.behind;
  tick = two.tick ∙ one.tick;
  bits = λ at lt is. one.bits at lt (two.bits at lt is);
  there = λ at c lt bit is. two.there at c lt bit (one.there at c lt (two.bits at lt bit) is);
  asks = λ at c lt bit is. two.asks at c lt bit (one.there at c lt (two.bits at lt bit) is)
      ∙ one.asks at c lt (two.bits at lt bit) is;
}

-- who is quiet after a call was so before, and asks as it told
pub quiet_stays : {V : Type 0} {P : V → Type 0} (show : DynBox V Global P → Seen) (old new : Nodes V P)
    (schedulers : List ℕ) (voices : ℕ) → IsQuiet show old schedulers voices → StaysLate show old new
    → IsQuiet show new schedulers voices
quiet_stays show old new schedulers voices quiet stays = record {
  behind = stays.behind ∙ quiet.behind;
  there = λ at c lt bit here.
      stays.there at c lt bit (quiet.there at c lt (stays.bits at lt bit) here);
  asks = λ at c lt bit here. stays.asks at c lt bit (quiet.there at c lt (stays.bits at lt bit) here)
      ∙ quiet.asks at c lt (stays.bits at lt bit) here;
}

-- what is shown of a node asks as what is stored, and is told right where that is
pub asks_shown : {V : Type 0} {P : V → Type 0} (show : DynBox V Global P → Seen) (nodes : Nodes V P) → IsLate show nodes
    → (k : ℕ) → asks_in (shown_at show nodes k) ≡ asks_in (stored_at show nodes.slab k)
asks_shown show nodes late k =
    asks_late nodes.behind nodes.tick (stored_at show nodes.slab k) (λ on. late.lags on k)

pub posted_stored : {V : Type 0} {P : V → Type 0} (show : DynBox V Global P → Seen) (nodes : Nodes V P)
    (k : ℕ) → PostedIn (shown_at show nodes k) → PostedIn (stored_at show nodes.slab k)
posted_stored show nodes k posted = posted_in nodes.behind nodes.tick (stored_at show nodes.slab k) posted
