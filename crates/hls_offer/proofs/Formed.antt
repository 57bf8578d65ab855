-- The terms on which a request is done are those of a scenario.
use Rattle.std.proofs.Common.{◌≡◌, ◌≢◌, ℕ, List, Option, Some, refl, sym, ◌∙◌, subst}
use Rattle.hls_text.specs.Lines.{Text}
use Rattle.hls_chron.specs.declared.plain.Kind.TheVariants as kinds
use Rattle.hls_chron.specs.declared.plain.Terms.{Terms}
use Rattle.hls_chron.specs.declared.plain.Terms.TheVariants as terms
use Rattle.hls_chron.specs.Kinds.{kind_of, terms_kind}
use Rattle.hls_chron.specs.Ranges.{TermsInRange}
use Rattle.hls_scenario.specs.Grammar.{IsTerms}
use Rattle.hls_machine.specs.Hierarchy.{Hierarchy, Node, Loaded, Scheduler}
use Rattle.hls_machine.specs.Legal.{IsReached}
use Rattle.hls_machine.proofs.Books.{AllMade, IsMadeNode, legal_made}
use Rattle.hls_book.proofs.Books.{kind_made}
use Rattle.hls_legal.specs.Moment.{Moment}
use Rattle.hls_legal.proofs.Found.{named_there}
use Rattle.hls_offer_asks.specs.declared.needs.Need.{Need}
use Rattle.hls_offer_asks.specs.declared.needs.Had.{Had}
use Rattle.hls_offer_asks.specs.declared.needs.Had.TheVariants.{At}
use Rattle.hls_offer_asks.specs.Needs.{IsDoneOn, IsHad, wish_of}
use Rattle.hls_offer_asks.proofs.Asked.{done_unhindered}
use Rattle.hls_offer_asks.proofs.Seatable.{wish_seatable}

by_kind : (its : Terms) → TermsInRange its → terms_kind its ≢ kinds.Cpu → IsTerms its
by_kind terms.Cpu range ne = absurd (ne refl)
by_kind (terms.Prio priority) range ne = range
by_kind (terms.Res hard x y) range ne = range
by_kind (terms.Weight weight) range ne = range
by_kind (terms.Slots places) range ne = range
by_kind terms.Turn range ne = tt
by_kind terms.Sole range ne = tt

-- what is loaded is not the processor
not_processor : (h : Hierarchy) → IsReached h → (id : ℕ) (s : Scheduler) → h.nodes id ≡ Some (Loaded s)
    → kind_of s.config ≢ kinds.Cpu
not_processor h reached id s e =
    kind_made s.config s.book
    (subst (λ (node : Option Node). IsMadeNode node) e
    (subst (λ (g : Hierarchy). AllMade g) (sym reached.leads) (legal_made reached.past reached.legal) id))

done_formed : (m : Moment) → IsReached m.hierarchy → (need : Need) (on : Text) (its : Terms) → TermsInRange its
    → IsDoneOn m need on its → IsTerms its
done_formed m reached need on its range done =
    let at = wish_seatable m (wish_of need on its) need.wanted (done_unhindered m _ done.0 done.1) in
    let found = named_there m.hierarchy on _ at.there in
    by_kind its range
    (λ cpu. not_processor m.hierarchy reached found.number at.scheduler found.there (sym at.of_kind ∙ cpu))

pub had_formed : (m : Moment) → IsReached m.hierarchy → (need : Need) (on : Text) (periods : Option (List ℕ))
    (its : Terms) (had : Had) → had ≡ At its → IsHad m need on periods had → IsTerms its
had_formed m reached need on periods its had e is =
    let first = subst (λ (h : Had). IsHad m need on periods h) e is in
    done_formed m reached need on its first.fits.range first.holds
