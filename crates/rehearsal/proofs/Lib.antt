mod NewStage
mod Sites
