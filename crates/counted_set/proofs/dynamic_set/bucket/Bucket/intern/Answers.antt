use Rattle.std.proofs.Common.{refl}
use Rattle.text_forms.specs.Pass.{found}
use Rattle.counted_set.proofs.dynamic_set.bucket.Bucket.intern.Goals as goal

pub returns-in-Found-clause-intern : goal.returns-in-Found-clause-intern
returns-in-Found-clause-intern g c =
    let e = c.in-Found.ensures in let left = c.find.new.self.entries in record {
      finds = found c.in-Found.share;
      left = left;
      pass = e.pass;
      goes_on = (refl, λ i. record { bits = e.bits i; entries = left; last = e.last i });
    }
