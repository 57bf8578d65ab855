use Rattle.hls_report_text.proofs.NameLaws.{place_is}
use Rattle.hls_report.proofs.places.place_in.Goals as goal

pub returns-clause-known : goal.returns-clause-known
returns-clause-known c = c.in_ok-place.ensures.keys

pub returns-clause-place : goal.returns-clause-place
returns-clause-place c = (
  c.in_ok-place.ensures.within,
  place_is c.args.name c.insert_full.new.self.keys c.in_ok-place.place
      c.in_ok-place.ensures.stored,
)
