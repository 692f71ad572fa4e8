-- `make_record_with` meets its contract: check 20, then all as with our own table. Assumes nothing.
use Rattle.std.proofs.Common.{◌≡◌, refl, sym, ◌∙◌, Err, rules}
use Rattle.records.specs.CheckOrder.{first_of}
use Rattle.hurricane.specs.Make.{make_by}
use Rattle.hurricane.proofs.ProfileLaws.{profile-in, profile-table, make-by-passed}
use Rattle.hurricane.proofs.make.make_record_with.Goals as goal

pub returns-in_err-check_profile : goal.returns-in_err-check_profile
unfolding make_by first_of
returns-in_err-check_profile c =
    let e : c.from_residual.result ≡ Err c.in_err-check_profile.field-0.0 = search rules in
    rw (e, sym c.check_profile.ensures ∙ c.in_err-check_profile.was) refl

pub make_with-requires : goal.make_with-requires
make_with-requires c = profile-table _ (profile-in _ (sym c.check_profile.ensures ∙ c.in_ok-check_profile.was))

pub returns : goal.returns
returns c = c.make_with.ensures ∙ sym (make-by-passed _ _ _ _ _ _ (sym c.check_profile.ensures ∙ c.in_ok-check_profile.was))
