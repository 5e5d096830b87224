use Rattle.view_install.proofs.ViewsRise.{installs-rise, only-the-promised, promises-rise}
use Rattle.view_install.proofs.law.promises_rise.Goals as goal

pub returns-clause-installs : goal.returns-clause-installs
returns-clause-installs c = installs-rise

pub returns-clause-promised : goal.returns-clause-promised
returns-clause-promised c = only-the-promised

pub returns-clause-offers : goal.returns-clause-offers
returns-clause-offers c = promises-rise
