-- What an accepted certificate shows.
use Rattle.std.proofs.Common.{◌<◌, ◌≤◌, sym, refl, ◌∙◌, ⊎_elim}
use Rattle.std.proofs.lemmas.Bool.{cases_lt}
use Rattle.sets.specs.declared.refusal.Refusal.TheVariants.{Short}
use Rattle.sets.specs.declared.refusal.Lent.TheVariants.{Work}
use Rattle.matroid.proofs.Optimality.{largest, heaviest_signed}
use Rattle.certificate.specs.Layout.{largest_set, dual_set, sized_set, first_part, second_part}
use Rattle.certificate.specs.Faults as fault
use Rattle.certificate.specs.Validity.{work_length}
use Rattle.certificate.specs.Soundness.{ShowsLargest, ShowsHeaviest, FaultlessIsValid}
use Rattle.certificate.proofs.Validating.{valid_shown, no_fault}

-- by its dual set
pub shows_largest : ShowsLargest
shows_largest n f g w sheet mf mg v =
    (v.dual.first, v.dual.second, λ t a b. largest n f g (largest_set n sheet) (dual_set n sheet) t mf mg v.dual a b)

-- by its numbers
pub shows_heaviest : ShowsHeaviest
shows_heaviest n f g w sheet k mf mg v a b =
    let d = v.split k a b in
    let c = v.sized k a b in (
      c,
      d.first,
      d.second,
      λ t x y e. heaviest_signed n f g w (first_part n sheet k) (second_part n sheet k) (sized_set n sheet k) t mf mg d x y (e ∙ sym c),
    )

-- by stages
pub faultless_is_valid : FaultlessIsValid
faultless_is_valid n f g w sheet words = (
  λ v h b p e z. no_fault n f g w sheet v words h b p e z,
  λ h. (
    valid_shown n f g w sheet (h fault.bytes) (h fault.largest, h fault.dual, λ k l a. (h (fault.sized k), h (fault.numbers k))),
    ⊎_elim
        (λ (l : words < work_length n). absurd (h fault.memory 0 (Short Work) (l, refl, refl)))
        (λ (l : work_length n ≤ words). l)
        (cases_lt words (work_length n)),
  ),
)
