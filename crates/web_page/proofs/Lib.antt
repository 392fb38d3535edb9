mod WordsMean
mod NoCallFails
mod ClausesAreCarried
