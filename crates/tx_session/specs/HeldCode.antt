-- What a session holds, written as pairs, by which a proof tells two of them apart.
use Rattle.std.specs.Prelude.{ℕ, List, refl}
use Rattle.std.specs.Coded.{Coded, code_by, coded×, coded_ℕ, coded_list}
use Rattle.std.specs.FinMap as map
use Rattle.tx_bytes.specs.Files.{Files}
use Rattle.tx_session.specs.Held.{Held}

abbrev pub held_code : Coded Held
held_code = code_by
    (Files × (List ℕ × ((ℕ × (ℕ × (ℕ × ℕ))) × (ℕ × (ℕ × ℕ)))))
    (coded× (map.code (coded_list coded_ℕ) (coded_list coded_ℕ))
    (coded× (coded_list coded_ℕ) (coded× (coded× coded_ℕ (coded× coded_ℕ (coded× coded_ℕ coded_ℕ))) (coded× coded_ℕ (coded× coded_ℕ coded_ℕ)))))
    (λ h. (h.files, (h.main, ((h.date.year, (h.date.month, (h.date.day, h.date.minutes))), (h.limits.budget, (h.limits.pages, h.limits.keep))))))
    (λ p. record {
      files = p.0;
      main = p.1.0;
      date = record { year = p.1.1.0.0; month = p.1.1.0.1.0; day = p.1.1.0.1.1.0; minutes = p.1.1.0.1.1.1 };
      limits = record { budget = p.1.1.1.0; pages = p.1.1.1.1.0; keep = p.1.1.1.1.1 };
    })
    (λ _. refl)
