mod SimulationLemmas
mod GroupLemmas
