-- Tags go by their rules.
use Rattle.std.proofs.Common.{◌≡◌, ℕ, ◌+◌, ◌*◌, Some, true, refl, sym, ap, ◌∙◌}
use Rattle.std.proofs.lemmas.Bool.{eq-eqb, ne_eqb}
use Rattle.hls_chron.specs.declared.book.Event.{Event}
use Rattle.hls_chron.specs.declared.book.Event.TheVariants.{Seat, Leave, Settle}
use Rattle.hls_chron.specs.declared.plain.Sharing.{Sharing}
use Rattle.hls_chron.specs.declared.plain.Terms.TheVariants.{Weight}
use Rattle.hls_chron.specs.Kinds.{by_shares}
use Rattle.hls_chron.specs.Ledger.{Ledger, now_of, with_mark}
use Rattle.hls_chron.specs.Seats.{is_slot}
use Rattle.hls_chron.proofs.BookLaws.{dated-mark}
use Rattle.hls_kinds.specs.declared.tenant.Tenant.{Tenant}
use Rattle.hls_kinds.specs.declared.tenant.Tenant.TheVariants.{Vacant, Sits, Left}
use Rattle.hls_kinds.specs.Made.{IsMade}
use Rattle.hls_kinds.specs.Tags.{tag_step, share_in}
use Rattle.hls_kinds.specs.Tenants.{tenant_at, tenant_then, after_settling}
use Rattle.hls_kinds.proofs.MarkLaws.{tenant_at-mark}
use Rattle.hls_kinds.proofs.TenantLaws.{seated_in, seated-terms}
use Rattle.hls_book.proofs.Books.{shares_made}
use Rattle.hls_book.specs.ShareBook.{KeepsShareBook}
use Rattle.hls_book.proofs.Bounds.{seat-share, present-start}
use Rattle.hls_book.proofs.Rooms.{tenant-now}
use Rattle.hls_book.proofs.States.{time-idle, time-on, time-begins, finish-unserved, finish-served}
use Rattle.hls_book.proofs.States.{time-mark, finish-stays, finish-begins}
use Rattle.hls_book_rules.proofs.Places.{not_its}
use Rattle.hls_book_rules.specs.Tags.{time_of, start_of, finish_of, KeepsTagRules}

settled_seat : (tenant : Tenant) (weight tick : ℕ) → seated_in tenant ≡ Some (Weight weight)
    → after_settling tick tenant ≡ Sits (Weight weight) tick
settled_seat (Sits terms since) weight tick is = let same : terms ≡ Weight weight = cc in ap (λ t. Sits t tick) same
settled_seat Vacant weight tick is = absurd cc
settled_seat (Left terms since at) weight tick is = absurd cc

module _ (sharing : Sharing) (b : Ledger) (made : IsMade (by_shares sharing) b) where
  book : KeepsShareBook sharing b
  book = shares_made sharing b made

  -- whoever sits after a mark does so in the present tick
  sat : (event : Event) (slot : ℕ) (tenant : Tenant) → tenant_at (with_mark b event) slot ≡ tenant
      → tenant_then (with_mark b event) slot (now_of b) ≡ tenant
  sat event slot tenant is =
      tenant-now (with_mark b event) slot (dated-mark b event book.admission.dated) ∙ is

  begun : (event : Event) (slot weight : ℕ)
      → tenant_at (with_mark b event) slot ≡ Sits (Weight weight) (now_of b)
      → finish_of sharing.quantum (with_mark b event) slot ≡ time_of sharing.quantum b
      + sharing.quantum * tag_step weight
  begun event slot weight is =
      let sits = sat event slot (Sits (Weight weight) (now_of b)) is in
      finish-begins sharing b event book slot (ap (λ (tenant : Tenant). (share_in tenant).since) sits)
      ∙ ap (λ (tenant : Tenant). time_of sharing.quantum b + sharing.quantum * tag_step (share_in tenant).weight) sits

  kept : (event : Event) (slot : ℕ) → tenant_at (with_mark b event) slot ≡ tenant_at b slot
      → finish_of sharing.quantum (with_mark b event) slot ≡ finish_of sharing.quantum b slot
  kept event slot same =
      finish-stays sharing b event book slot
      (ap share_in (sat event slot (tenant_at b slot) same ∙ sym (tenant-now b slot book.admission.dated)))

  pub tag_rules : KeepsTagRules sharing.quantum b
  tag_rules = record {
    starts = λ slot weight is. present-start sharing b book slot weight is;
    serves = λ row slot to off. time-begins sharing b row book slot to off;
    goes_on = λ row on. time-on sharing b row book on;
    finishes = λ row slot weight to is.
        let here : is_slot row.to slot ≡ true = ap (λ o. is_slot o slot) to ∙ eq-eqb slot slot refl in
        finish-served sharing b row book slot here
        ∙ ap (λ n. start_of sharing.quantum b slot + tag_step n) (seat-share sharing b book slot weight is);
    waits = λ row slot other. finish-unserved sharing b row book slot (not_its row.to slot other);
    idles = λ row none. time-idle sharing b row book none;
    begins = λ slot weight.
        begun (Seat slot (Weight weight)) slot weight
        (tenant_at-mark b (Seat slot (Weight weight)) slot ∙ rw (eq-eqb slot slot refl) refl);
    settles = λ slot weight is.
        begun Settle slot weight
        (tenant_at-mark b Settle slot
        ∙ settled_seat (tenant_at b slot) weight (now_of b) (seated-terms b slot ∙ is));
    beside = λ slot other terms apart.
        kept (Seat other terms) slot (tenant_at-mark b (Seat other terms) slot ∙ rw (ne_eqb other slot apart) refl);
    without = λ slot other apart.
        kept (Leave other) slot (tenant_at-mark b (Leave other) slot ∙ rw (ne_eqb other slot apart) refl);
    stays = λ event. time-mark sharing b event book;
  }
