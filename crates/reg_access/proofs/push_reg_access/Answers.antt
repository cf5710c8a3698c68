-- `reg_access::push_reg_access` meets its contract: the route of the inputs is that of the record, and the address decides the rest.
-- Assumes nothing.
use mathlib.Core.Path.{◌≡◌, sym, ap, ◌∙◌}
use Rattle.access.specs.declared.AccessTable.{AccessTable}
use Rattle.classify.specs.Classify.{access_route}
use Rattle.classify.specs.TableRecord.{address_fits}
use Rattle.reg_access.specs.RegAccess.{built, with_zeros, push_numbers}
use Rattle.reg_access.specs.declared.RegAccess.{RegAccess}
use Rattle.reg_access.proofs.Route.{built_carries, pushed_fits, pushed_not}
use Rattle.reg_access.proofs.push_reg_access.Goals as goal
use Rattle.reg_access.proofs.push_reg_access.Goals.{After-route_of-route}

-- the route of the record is the one found
route_at : (c : After-route_of-route) → let a = c.args in
    access_route (built a.reg_addr a.val a.old a.timestamp a.old_timestamp a.is_read) ≡ c.route_of-route.result
route_at c =
    let a = c.args in
    built_carries a.reg_addr a.val a.old a.timestamp a.old_timestamp a.is_read ∙ sym c.route_of-route.ensures

pub returns-then-address_fits : goal.returns-then-address_fits
unfolding built
returns-then-address_fits c =
    let a = c.args in
    let same = c.from-t.ensures in
    let fits = ap (λ (t : AccessTable). address_fits t a.reg_addr) (sym same) ∙ sym c.address_fits.ensures ∙ c.if-address_fits.true in
    let p = pushed_fits _ c.route_of-route.result (route_at (goal.at.returns-then-address_fits c).After-route_of-route) fits in record {
      answer = ap (λ (x : RegAccess). push_numbers x.answer) p;
      written = c.written-record.ensures
          ∙ ap (λ t. with_zeros t (built a.reg_addr a.val a.old a.timestamp a.old_timestamp a.is_read)) same
          ∙ ap (λ (x : RegAccess). x.written) p;
    }

pub returns : goal.returns
unfolding built
returns c =
    let a = c.args in
    let fits = ap (λ (t : AccessTable). address_fits t a.reg_addr) (sym c.from-t.ensures) ∙ sym c.address_fits.ensures ∙ c.if-address_fits.false in
    let p = pushed_not _ c.route_of-route.result (route_at (goal.at.returns c).After-route_of-route) fits in record {
      answer = ap (λ (x : RegAccess). push_numbers x.answer) p;
      written = ap (λ (x : RegAccess). x.written) p;
    }
