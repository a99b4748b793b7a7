mod CrossingBuilds
mod CrossingFormulas
mod CrossingModels
mod CrossingParts
mod CrossingRules
mod CrossingStore
