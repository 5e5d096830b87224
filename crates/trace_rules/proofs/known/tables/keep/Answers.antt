use Rattle.trace_rules.proofs.known.tables.keep.Goals as goal

-- all is kept
pub returns-clause-known : goal.returns-clause-known
returns-clause-known c = λ t may r. record {
  standings_known = c.in_ok-note_standing.ensures t r.standings_known;
  in_views_known = c.in_ok-note_in_view.ensures t may r.in_views_known;
  installs_known = c.in_ok-note_install.ensures t r.installs_known;
}
